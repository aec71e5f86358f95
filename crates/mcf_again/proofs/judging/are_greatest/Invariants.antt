use Rattle.std.proofs.Common.{ℕ}
use Rattle.mcf_flows.specs.Network.{IsNode}
use Rattle.mcf_again.specs.Private.Exits.{HasExit}
use Rattle.mcf_again.proofs.judging.are_greatest.Given as goal

abbrev pub invariant-nodes : goal.invariant-nodes
invariant-nodes l = (v : ℕ) → IsNode l.number v → HasExit l.state l.prices l.ranks v
