use Rattle.std.proofs.Common.{◌∙◌, ◌+◌, ◌++◌, ◌∷◌, [], ℕ, List, ap, arith}
use Rattle.mcf_table.specs.Heads.{cells_of}
use Rattle.mcf_reading.specs.Cells.{cell_at}
use Rattle.mcf_reading.proofs.Ranges.{made}
use Rattle.mcf_period_reading.specs.PlaceTimes.{spot_of}
use Rattle.mcf_period_reading.specs.declared.spots.Spot.{Spot}
use Rattle.mcf_period_reading.proofs.place_times.spots.Goals as goal

pub loop-place-preserved : goal.loop-place-preserved
loop-place-preserved c =
    let place = c.loop-place.place in
    let before = c.loop-place.made.items in
    let names = c.args.names.now in
    let periods = c.args.periods.now in
    let cells = λ (row : ℕ). cells_of c.args.records.now row in
    let name_column = c.args.columns.name in
    let period_column = c.args.columns.period in
    made (λ row. spot_of names periods (cell_at (cells row) name_column) (cell_at (cells row) period_column)) 1 place (place + 1) before c.push.new.self.items
    (omega arith) c.loop-place.invariant
    (c.in_ok-push.ensures.items ∙ ap (λ (spot : Spot). before ++ spot ∷ []) c.spot_of.ensures
    ∙ ap (λ (cell : List ℕ). before ++ spot_of names periods cell c.cell_at-period.result.now ∷ []) c.cell_at-name.ensures
    ∙ ap (λ (cell : List ℕ). before ++ spot_of names periods (cell_at (cells (place + 1)) name_column) cell ∷ []) c.cell_at-period.ensures)
