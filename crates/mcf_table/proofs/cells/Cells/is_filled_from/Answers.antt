use Rattle.std.proofs.Common.{◌∙◌, sym}
use Rattle.std.proofs.lemmas.List.{take_rest}
use Rattle.mcf_table.proofs.CellLemmas.{filled_from}
use Rattle.mcf_table.proofs.cells.Cells.is_filled_from.Goals as goal

pub returns : goal.returns
returns c =
    let seen = simp take_rest at (c.has_filled.ensures) in
    (rw c.deref.ensures.value at seen)
    ∙ filled_from c.self.inside.bytes.items c.self.inside.spans.items c.args.self.now c.args.first c.self.invariant (sym c.self.view_is)
