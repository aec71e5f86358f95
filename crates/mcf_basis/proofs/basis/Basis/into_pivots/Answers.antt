use Rattle.std.proofs.Common.{ap}
use Rattle.mcf_basis.specs.Structures.{TreeStructure}
use Rattle.mcf_basis.proofs.basis.Basis.into_pivots.Goals as goal

pub returns : goal.returns
returns c = ap (λ (b : TreeStructure). b.pivots) c.self.view_is
