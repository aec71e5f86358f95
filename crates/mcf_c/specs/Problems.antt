-- The networks that problems in arrays stand for.
-- Source: own
use Rattle.mcf_c.specs.declared.problems.McfAssignment.{McfAssignment}
use Rattle.mcf_c.specs.declared.problems.McfFlowProblem.{McfFlowProblem}
use Rattle.mcf_instance.specs.Arrays.{assignment_problem, flow_problem}
use Rattle.mcf_flows.specs.Network.{Network}

-- the flow problem of the supplies and arcs
abbrev pub flow_network : McfFlowProblem → Network
flow_network p = flow_problem p.supplies.now p.arcs.now

-- the assignment problem of the rows, the columns and the pairs
abbrev pub assignment_network : McfAssignment → Network
assignment_network p = assignment_problem p.rows p.columns p.pairs.now
