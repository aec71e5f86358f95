-- How many costs were looked at.
use Rattle.std.proofs.Common.{◌≡◌, ℕ, ◌≤◌, List, length, take, ap, ◌∙◌}
use Rattle.std.proofs.lemmas.List.{length-map, length-take-le}
use Rattle.mcf_decimal.specs.Settled.{marks_of}
use Rattle.mcf_decimal.specs.declared.settled.Marks.{Marks}
use Rattle.mcf_table.specs.Texts.{Record}
use Rattle.mcf_roster_reading.specs.Cells.{cell_in}
use Rattle.mcf_roster_reading.specs.CostMarks.{cost_cells}
use Rattle.mcf_roster_reading.specs.declared.layouts.PairAt.{PairAt}

pub seen_is : (records : List Record) (pairs : List PairAt) (i : ℕ) (marks : Marks) → i ≤ length pairs
    → marks ≡ marks_of (cost_cells records (take i pairs)) → marks.seen ≡ i
unfolding marks_of
seen_is records pairs i marks inside is =
    ap (λ (m : Marks). m.seen) is ∙ length-map (take i pairs) (λ p. cell_in records p.cost) ∙ length-take-le i pairs inside
