use Rattle.std.proofs.Common.{ap}
use Rattle.mcf_basis.specs.Structures.{TreeStructure}
use Rattle.mcf_basis.proofs.basis.Basis.net.Goals as goal

pub returns-clause-value : goal.returns-clause-value
returns-clause-value c = ap (λ (b : TreeStructure). b.net) c.self.view_is
