use Rattle.std.proofs.Common.{take}
use Rattle.mcf_checker.specs.Private.StatedFlows.{IsNext, flow_stated}
use Rattle.mcf_flows.specs.Flow.{AreNets}
use Rattle.mcf_flows.specs.Network.{node_count}
use Rattle.mcf_checker.proofs.solution.nets_of.Given as goal

abbrev pub invariant-loop-place : goal.invariant-loop-place
invariant-loop-place l =
    AreNets (node_count l.instance) (take l.place l.instance.arcs) (flow_stated l.instance.arcs l.stated) l.nets.items × IsNext l.stated l.place l.next
