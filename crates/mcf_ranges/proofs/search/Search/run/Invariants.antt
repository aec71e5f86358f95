use Rattle.std.proofs.Common.{◌-◌, [], length}
use Rattle.mcf_network.specs.NodeSets.{member_count}
use Rattle.mcf_ranges.specs.Private.Searches.{IsSearch}
use Rattle.mcf_ranges.proofs.search.Search.run.Given as goal

abbrev pub invariant-nodes : goal.invariant-nodes
invariant-nodes l = IsSearch l.fn.self l.heap l.settled []

abbrev pub decreases-nodes : goal.decreases-nodes
decreases-nodes l = length l.settled - member_count l.settled
