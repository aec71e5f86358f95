use Rattle.std.proofs.Common.{◌≤◌, vec_capacity}
use Rattle.mcf_flows.specs.Network.{node_count}
use Rattle.mcf_feas.proofs.Searches.{IsScanning}
use Rattle.mcf_feas.proofs.path_search.PathSearch.scan.Given as goal

abbrev pub invariant-loop-along : goal.invariant-loop-along
invariant-loop-along l =
    record {
      can_next : (goal.iterator-loop-along).can_next l.along-iterator;
      is_finite : (goal.iterator-loop-along).is_finite l.along-iterator;
      room : node_count l.state.net ≤ vec_capacity l.self.visits;
      scanning : IsScanning l.state l.self.reached l.self.visits.items l.place l.along-iterator;
    }
