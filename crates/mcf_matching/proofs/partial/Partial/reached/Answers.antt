use Rattle.std.proofs.Common.{subst, ◌∙◌, ap}
use Rattle.mcf_flows.specs.Network.{node_count}
use Rattle.mcf_matching.specs.Extending.{Assigned, IsShownMatching}
use Rattle.mcf_matching.proofs.Kept.{shown_kept}
use Rattle.mcf_matching.proofs.partial.Partial.reached.Goals as goal

pub returns-clause-shown : goal.returns-clause-shown
returns-clause-shown g c = subst IsShownMatching c.self.view_is (shown_kept c.self.invariant.0)

pub returns-clause-one_per_node : goal.returns-clause-one_per_node
returns-clause-one_per_node g c =
    c.self.invariant.0.count
    ∙ ap (λ (m : Assigned). node_count m.flow.net) c.self.view_is
