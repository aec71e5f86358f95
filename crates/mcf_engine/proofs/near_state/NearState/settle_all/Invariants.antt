use Rattle.std.proofs.Common.{[]}
use Rattle.mcf_network.specs.NodeSets.{member_count}
use Rattle.mcf_engine.specs.Private.Raisings.{IsRaising}
use Rattle.mcf_engine.proofs.near_state.NearState.settle_all.Given as goal

abbrev pub invariant-nodes : goal.invariant-nodes
invariant-nodes l = IsRaising l.fn.self l.heap []

abbrev pub decreases-nodes : goal.decreases-nodes
decreases-nodes l = member_count l.heap.waiting
