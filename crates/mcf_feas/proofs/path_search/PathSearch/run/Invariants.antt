use Rattle.std.proofs.Common.{◌-◌, ◌<◌, ◌≤◌, length, vec_capacity}
use Rattle.mcf_flows.specs.Network.{node_count}
use Rattle.mcf_feas.specs.Private.Searching.{IsScanned}
use Rattle.mcf_feas.proofs.path_search.PathSearch.run.Given as goal

abbrev pub invariant-loop-scanned : goal.invariant-loop-scanned
invariant-loop-scanned l =
    record {
      scanned : IsScanned l.state l.self.reached l.self.visits.items l.scanned;
      room : node_count l.state.net ≤ vec_capacity l.self.visits;
      some : 0 < length l.self.visits.items;
    }

abbrev pub decreases-loop-scanned : goal.decreases-loop-scanned
decreases-loop-scanned l = length l.self.reached - l.scanned
