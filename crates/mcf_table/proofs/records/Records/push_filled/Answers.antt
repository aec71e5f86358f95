use Rattle.std.proofs.Common.{◌≡◌, ◌∙◌, ◌+◌, ◌<◌, ◌++◌, List, length, not, sym, ap, arith}
use Rattle.mcf_table.specs.Heads.{cells_of, filled_from, in_row}
use Rattle.mcf_table.specs.Texts.{is_filled}
use Rattle.mcf_table.specs.declared.heads.CellPlace.{CellPlace}
use Rattle.mcf_table.proofs.HeadLemmas.{cells_hit, cells_left, cells_miss, is_filled_at}
use Rattle.mcf_table.proofs.records.Records.push_filled.Goals as goal
use Rattle.mcf_table.proofs.records.Records.push_filled.Goals.{then-not-is_empty+in_ok-push, else-not-is_empty}

pub cells-preserved : goal.cells-preserved
cells-preserved c =
    let row = c.args.row in
    let cells = cells_of c.args.self.now row in
    let place = c.cells.place in
    let found = c.cells.found.items in
    let want = c.args.found.now.items ++ in_row row (filled_from c.args.first cells) in
    let below : place < length cells = omega (arith, c.cells-test.true, c.cells.invariant.count) in
    let same : is_filled_at cells place ≡ is_filled c.cell.result.now = ap is_filled (sym c.cell.ensures) in
    let filled = ap not (sym c.is_empty.ensures) in
    record {
      row = c.cells.invariant.row;
      count = c.cells.invariant.count;
      left = elim c.if-not-is_empty.branch [
        | then-not-is_empty+in_ok-push w ↦
            rw w.found-is (ap (λ (more : List CellPlace). more ++ cells_left cells row (place + 1)) w.in_ok-push.ensures.items
            ∙ cells_hit cells row place found want below (same ∙ filled ∙ ap not w.if-not-is_empty.true) c.cells.invariant.left)
        | else-not-is_empty w ↦
            rw w.found-is (cells_miss cells row place found want below (same ∙ filled ∙ ap not w.if-not-is_empty.false) c.cells.invariant.left)
      ];
    }
