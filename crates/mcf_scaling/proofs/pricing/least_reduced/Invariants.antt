use Rattle.mcf_flows.specs.Network.{at_node}
use Rattle.mcf_scaling.specs.Private.CurrentArcs.{rest_from}
use Rattle.mcf_scaling.proofs.Scans.{IsScanned}
use Rattle.mcf_scaling.proofs.pricing.least_reduced.Given as goal

abbrev pub invariant-positions : goal.invariant-positions
invariant-positions l =
    IsScanned l.fn.state l.fn.prices l.fn.v (at_node l.fn.prices l.fn.v) l.least (rest_from l.fn.star l.fn.v l.i)
