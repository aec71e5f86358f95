use Rattle.std.proofs.Common.{◌∙◌, ◌+◌, ◌++◌, ◌∷◌, [], ℕ, List, Bor, map, ap, arith}
use Rattle.std.proofs.lemmas.List.{map-append}
use Rattle.mcf_table.specs.Heads.{cells_of}
use Rattle.mcf_reading.specs.Cells.{cell_at}
use Rattle.mcf_reading.proofs.Ranges.{made}
use Rattle.mcf_period_reading.proofs.cells.cells_under.Goals as goal

pub loop-place-preserved : goal.loop-place-preserved
loop-place-preserved c =
    let place = c.loop-place.place in
    let before = c.loop-place.made.items in
    let read = λ (cell : Bor (List ℕ)). cell.now in
    made (λ row. cell_at (cells_of c.args.records.now row) c.args.column) 1 place (place + 1) (map read before) (map read c.push.new.self.items) (omega arith)
    c.loop-place.invariant
    (ap (map read) c.in_ok-push.ensures.items ∙ map-append read before (c.cell_at-cell.result ∷ [])
    ∙ ap (λ (cell : List ℕ). map read before ++ cell ∷ []) c.cell_at-cell.ensures)
