-- The places and periods of rows, by the columns and the names that were read.
use Rattle.std.proofs.Common.{◌≡◌, ◌∙◌, ℕ, List, ap, subst}
use Rattle.std.specs.Prelude.{IfOk, Result}
use Rattle.std.specs.Global.{Vec}
use Rattle.mcf_table.specs.Texts.{Record}
use Rattle.mcf_period_reading.specs.PeriodCells.{cells_under}
use Rattle.mcf_period_reading.specs.PeriodReading.{spots_in}
use Rattle.mcf_period_reading.specs.PlaceTimes.{periods_in, spots, time_columns}
use Rattle.mcf_period_reading.specs.declared.spots.Spot.{Spot}
use Rattle.mcf_period_reading.specs.declared.place_times.TimeColumns.{TimeColumns}

spots_same : (places : List Record) (columns : TimeColumns) (names cells periods : List (List ℕ)) → columns ≡ time_columns places → names ≡ cells
    → cells ≡ cells_under places columns.name → periods ≡ periods_in places → spots columns names periods places ≡ spots_in places
spots_same places columns names cells periods e f g h =
    ap (λ (ns : List (List ℕ)). spots columns ns periods places) (f ∙ g)
    ∙ ap (λ (ps : List (List ℕ)). spots columns (cells_under places columns.name) ps places) h
    ∙ ap (λ (cs : TimeColumns). spots cs (cells_under places cs.name) (periods_in places) places) e

pub spots_read : {E : Type 0} (places : List Record) (columns : TimeColumns) (names cells periods : List (List ℕ)) (r : Result (Vec Spot) E)
    → columns ≡ time_columns places → names ≡ cells → cells ≡ cells_under places columns.name → periods ≡ periods_in places
    → IfOk r (λ made. made.items ≡ spots columns names periods places) → IfOk r (λ made. made.items ≡ spots_in places)
spots_read places columns names cells periods r e f g h k =
    subst (λ (xs : List Spot). IfOk r (λ made. made.items ≡ xs)) (spots_same places columns names cells periods e f g h) k
