use Rattle.std.proofs.Common.{◌≡◌, take}
use Rattle.mcf_checker.specs.Private.StatedFlows.{IsNext, flow_stated}
use Rattle.mcf_flows.specs.Flow.{cost}
use Rattle.mcf_checker.proofs.solution.cost_of.Given as goal

abbrev pub invariant-loop-place : goal.invariant-loop-place
invariant-loop-place l =
    (l.total ≡ cost (take l.place l.instance.arcs) (flow_stated l.instance.arcs l.stated)) × IsNext l.stated l.place l.next
