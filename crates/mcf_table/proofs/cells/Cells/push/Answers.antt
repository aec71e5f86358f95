use Rattle.std.proofs.Common.{◌≡◌, length, sym, refl, arith, rules}
use Rattle.mcf_table.proofs.CellLemmas.{on_err, pushed, still_parts}
use Rattle.mcf_table.proofs.cells.Cells.push.Goals as goal

pub returns-clause-pushed : goal.returns-clause-pushed
returns-clause-pushed c =
    let start : c.len-start.result ≡ length c.self.inside.bytes.items = first_of (omega arith, search rules) in
    pushed c.self.inside.bytes.items c.extend_from_slice.new.self.items c.args.cell.now c.self.inside.spans.items c.push.new.self.items
    c.args.self.now c.len-start.result _ c.self.invariant (sym c.self.view_is)
    c.in_ok-extend_from_slice.ensures.items c.in_ok-push.ensures.items start refl

pub returns-in_err-push-clause-kept : goal.returns-in_err-push-clause-kept
returns-in_err-push-clause-kept c =
    on_err _ (still_parts c.self.inside.bytes.items _ c.args.cell.now c.self.inside.spans.items _ c.args.self.now c.self.invariant
    (sym c.self.view_is) c.in_ok-extend_from_slice.ensures.items c.in_err-push.ensures.items)
