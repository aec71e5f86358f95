use Rattle.std.proofs.Common.{ℕ}
use Rattle.mcf_flows.specs.Flow.{IsComplementary}
use Rattle.mcf_flows.specs.Network.{IsNode}
use Rattle.mcf_network.specs.Residual.{arc_at}
use Rattle.mcf_network.specs.States.{amount_at}
use Rattle.mcf_fast_scaling.proofs.judging.shows.Given as goal

abbrev pub invariant-arcs : goal.invariant-arcs
invariant-arcs l = (k : ℕ) → IsNode l.number k → IsComplementary l.prices (arc_at l.state.net k) (amount_at l.state k)
