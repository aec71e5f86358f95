use Rattle.std.proofs.Common.{◌∙◌, ◌+◌, ◌++◌, ◌∷◌, [], ℕ, List, Bor, map, ap, arith}
use Rattle.std.proofs.lemmas.List.{map-append}
use Rattle.mcf_forms.specs.Cells.{cell_at}
use Rattle.mcf_forms.proofs.Ranges.{made}
use Rattle.mcf_forms.proofs.cells.cells_below.Goals as goal

pub loop-row-preserved : goal.loop-row-preserved
loop-row-preserved c =
    let row = c.loop-row.row in
    let before = c.loop-row.made.items in
    let read = λ (cell : Bor (List ℕ)). cell.now in
    made (λ row. cell_at c.args.records.now row c.args.place) 1 row (row + 1) (map read before) (map read c.push.new.self.items) (omega arith)
    c.loop-row.invariant
    (ap (map read) c.in_ok-push.ensures.items ∙ map-append read before (c.cell.result ∷ [])
    ∙ ap (λ (cell : List ℕ). map read before ++ cell ∷ []) c.cell.ensures)
