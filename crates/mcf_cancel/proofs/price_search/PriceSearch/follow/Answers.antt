use Rattle.std.proofs.Common.{◌≡◌, ◌++◌, ◌∷◌, [], rules, subst, ap, ◌∙◌, false}
use Rattle.mcf_flows.specs.Network.{Network, IsNode, node_count}
use Rattle.mcf_flows.specs.Blocking.{in_table}
use Rattle.mcf_network.specs.Residual.{head}
use Rattle.mcf_cancel.specs.Private.Labels.{Labels}
use Rattle.mcf_cancel.proofs.LinkWalks.{IsWalk-push}
use Rattle.mcf_cancel.proofs.Paths.{trail_push}
use Rattle.mcf_cancel.proofs.price_search.PriceSearch.follow.Goals as goal

pub links-preserved : goal.links-preserved
links-preserved c =
    let l = c.args.self.now in
    let fresh : in_table c.links.seen c.links.at ≡ false = search rules in
    let step = c.in-Some.ensures.step in
    let pushed : c.push.new.self.items ≡ c.links.path.items ++ c.in-Some.r ∷ [] = search rules in
    let net = c.net.ensures.value ∙ ap (λ (x : Labels). x.flow.net) c.self.view_is in
    let to : c.route-to.result.1 ≡ head l.flow.net c.in-Some.r = c.route-to.ensures.head ∙ ap (λ (x : Network). head x c.in-Some.r) net in
    let node = subst (λ (x : Network). IsNode (node_count x) c.route-to.result.1) net c.route-to.ensures.head_is_node in
    record {
      trail = rw (pushed, c.insert.ensures) (trail_push l _ _ _ c.in-Some.r c.links.at c.links.invariant.trail c.links.invariant.inside fresh step.0 step.1);
      inside = node;
      walk = rw (pushed, to) (IsWalk-push l.flow.net _ c.in-Some.r c.args.from c.links.at c.links.invariant.walk step.1);
    }
