use Rattle.std.proofs.Common.{◌≤◌, vec_capacity}
use Rattle.mcf_flows.specs.Network.{node_count}
use Rattle.mcf_feas.proofs.Searches.{IsStarted}
use Rattle.mcf_feas.proofs.path_search.PathSearch.start.Given as goal

abbrev pub invariant-loop-number : goal.invariant-loop-number
invariant-loop-number l =
    record {
      started : IsStarted l.state l.self.reached l.self.visits.items l.number;
      room : node_count l.state.net ≤ vec_capacity l.self.visits;
    }
