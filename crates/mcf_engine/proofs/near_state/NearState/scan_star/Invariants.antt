use Rattle.std.specs.Prelude.{length}
use Rattle.mcf_flows.specs.Network.{node_count}
use Rattle.mcf_engine.specs.Private.Raisings.{KeepsSettled}
use Rattle.mcf_engine.proofs.RaisingSteps.{IsFound}
use Rattle.mcf_engine.proofs.near_state.NearState.scan_star.Given as goal

abbrev pub invariant-entering : goal.invariant-entering
invariant-entering l =
    record {
      found : IsFound l.fn.self l.heap l.fn.w l.fn.base l.last l.leaving;
      kept : KeepsSettled (node_count l.fn.self.state.now.net) l.fn.heap l.heap;
    }

abbrev pub decreases-entering : goal.decreases-entering
decreases-entering l = length l.leaving
