use Rattle.std.proofs.Common.{◌≤◌}
use Rattle.mcf_network.specs.NodeSets.{member_count}
use Rattle.mcf_engine.specs.Private.Raisings.{IsPopped}
use Rattle.mcf_engine.proofs.near_state.NearState.settle_ties.Given as goal

abbrev pub invariant-ties : goal.invariant-ties
invariant-ties l =
    record {
      popped : IsPopped l.fn.self l.heap l.last;
      fewer : member_count l.heap.waiting ≤ member_count l.fn.heap.waiting;
    }

abbrev pub decreases-ties : goal.decreases-ties
decreases-ties l = member_count l.heap.waiting
