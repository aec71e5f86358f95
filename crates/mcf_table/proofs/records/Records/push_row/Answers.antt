use Rattle.std.proofs.Common.{map, refl, sym}
use Rattle.std.proofs.lemmas.List.{length-map}
use Rattle.mcf_table.proofs.CellLemmas.{on_err}
use Rattle.mcf_table.proofs.RecordLemmas.{row_pushed, still_rows}
use Rattle.mcf_table.proofs.records.Records.push_row.Goals as goal

pub returns-in_err-push_cells-clause-kept : goal.returns-in_err-push_cells-clause-kept
returns-in_err-push_cells-clause-kept c =
    on_err _ (still_rows c.self.inside.cells _ c.in_err-push_cells.ensures.kept.0 c.self.inside.parts.items _ c.args.self.now
    c.self.invariant (sym c.self.view_is) c.in_err-push_cells.ensures.kept.1 refl)

pub returns-in_err-push-clause-kept : goal.returns-in_err-push-clause-kept
returns-in_err-push-clause-kept c =
    on_err _ (still_rows c.self.inside.cells _ (map (λ cell. cell.now) c.args.cells.now) c.self.inside.parts.items _ c.args.self.now
    c.self.invariant (sym c.self.view_is) c.in_ok-push_cells.ensures.pushed c.in_err-push.ensures.items)

pub returns-clause-pushed : goal.returns-clause-pushed
returns-clause-pushed c =
    row_pushed c.self.inside.cells _ (map (λ cell. cell.now) c.args.cells.now) c.self.inside.parts.items _ c.args.self.now c.args.line _ _
    c.self.invariant (sym c.self.view_is) c.in_ok-push_cells.ensures.pushed c.in_ok-push.ensures.items c.len-first.ensures
    (sym (length-map c.args.cells.now (λ cell. cell.now)))
