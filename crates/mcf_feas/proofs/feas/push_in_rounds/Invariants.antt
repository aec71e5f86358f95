use Rattle.std.proofs.Common.{◌≡◌, ◌≤◌, length, vec_capacity}
use Rattle.mcf_flows.specs.Network.{node_count}
use Rattle.mcf_network.specs.States.{IsPseudoflow}
use Rattle.mcf_feas.specs.Private.Pushing.{excess}
use Rattle.mcf_feas.proofs.feas.push_in_rounds.Given as goal

abbrev pub invariant-searches : goal.invariant-searches
invariant-searches l =
    record {
      of_net : l.state.net ≡ l.initial.state.net;
      flow : IsPseudoflow l.state;
      nodes : length l.search.reached ≡ node_count l.initial.state.net;
      room : node_count l.initial.state.net ≤ vec_capacity l.search.visits;
    }

abbrev pub decreases-searches : goal.decreases-searches
decreases-searches l = excess l.state
