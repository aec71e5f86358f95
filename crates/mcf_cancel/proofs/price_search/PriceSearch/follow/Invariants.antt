use Rattle.std.proofs.Common.{◌-◌, length}
use Rattle.mcf_flows.specs.Network.{IsNode, node_count}
use Rattle.mcf_network.specs.NodeSets.{member_count}
use Rattle.mcf_network.specs.Walks.{IsWalk}
use Rattle.mcf_cancel.specs.Private.Trails.{IsTrail}
use Rattle.mcf_cancel.proofs.price_search.PriceSearch.follow.Given as goal

abbrev pub invariant-links : goal.invariant-links
invariant-links l =
    record {
      trail : IsTrail l.self l.path.items l.seen l.done;
      inside : IsNode (node_count l.self.flow.net) l.at;
      walk : IsWalk l.self.flow.net l.fn.from l.path.items l.at;
    }

abbrev pub decreases-links : goal.decreases-links
decreases-links l = length l.seen - member_count l.seen
