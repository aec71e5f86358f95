use Rattle.std.specs.Prelude.{int_lt, pos}
use Rattle.mcf_flows.specs.Network.{node_count}
use Rattle.mcf_basis.specs.Structures.{price_at}
use Rattle.mcf_basis.proofs.Endings.{IsMarkedTo}
use Rattle.mcf_basis.proofs.basis.Basis.mark_cut.Given as goal

abbrev pub invariant-loop-i : goal.invariant-loop-i
invariant-loop-i l = IsMarkedTo (node_count l.self.net) l.i (λ v. int_lt (pos 0) (price_at l.self v)) l.set
