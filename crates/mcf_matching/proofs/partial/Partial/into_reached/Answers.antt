use Rattle.std.proofs.Common.{◌∙◌, ap}
use Rattle.mcf_flows.specs.Network.{node_count}
use Rattle.mcf_matching.specs.Extending.{Assigned}
use Rattle.mcf_matching.proofs.partial.Partial.into_reached.Goals as goal

pub returns-clause-one_per_node : goal.returns-clause-one_per_node
returns-clause-one_per_node g c =
    c.self.invariant.0.count
    ∙ ap (λ (m : Assigned). node_count m.flow.net) c.self.view_is
