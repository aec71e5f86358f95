use Rattle.std.proofs.Common.{List, ℤ, ap, subst}
use Rattle.std.specs.List.{All}
use Rattle.mcf_flows.specs.WellFormed.{IsUpTo}
use Rattle.mcf_matching.specs.Extending.{Assigned, IsShownMatching}
use Rattle.mcf_matching.proofs.Kept.{shown_kept}
use Rattle.mcf_matching.proofs.Near.{near_all}
use Rattle.mcf_matching.proofs.partial.Partial.into_parts.Goals as goal
use Rattle.mcf_matching.specs.Matchings.{price_limit}

pub returns-clause-small : goal.returns-clause-small
returns-clause-small g c =
    let i = c.self.inside in
    let k = c.self.invariant.0 in
    subst (λ (y : List ℤ). All (IsUpTo price_limit) y) (ap (λ (m : Assigned). m.prices) c.self.view_is) (near_all i.state i.prices.items k.matching.flow.of_net k.shown.count k.near)

pub returns-clause-shown : goal.returns-clause-shown
returns-clause-shown g c = subst IsShownMatching c.self.view_is (shown_kept c.self.invariant.0)
