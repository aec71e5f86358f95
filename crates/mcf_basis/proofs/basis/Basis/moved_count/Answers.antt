use Rattle.std.proofs.Common.{length, ap, ◌∙◌}
use Rattle.mcf_basis.specs.Structures.{TreeStructure}
use Rattle.mcf_basis.proofs.basis.Basis.moved_count.Goals as goal

pub returns-clause-value : goal.returns-clause-value
returns-clause-value c =
    ap length c.moved.ensures.value ∙ ap (λ (b : TreeStructure). length b.tree.moved) c.self.view_is
