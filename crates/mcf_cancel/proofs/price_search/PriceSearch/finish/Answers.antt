use Rattle.std.proofs.Common.{◌≡◌, ◌++◌, ◌∷◌, [], subst, ap, ◌∙◌}
use Rattle.mcf_flows.specs.Network.{Network}
use Rattle.mcf_network.specs.Residual.{tail}
use Rattle.mcf_cancel.specs.Private.Labels.{Labels, IsLabelling}
use Rattle.mcf_cancel.specs.Private.Trails.{IsStep}
use Rattle.mcf_cancel.proofs.Paths.{All-last, finish_step}
use Rattle.mcf_cancel.proofs.price_search.PriceSearch.finish.Goals as goal

pub path-preserved : goal.path-preserved
path-preserved c =
    let l = c.args.self.now in
    let popped : c.path.path.items ≡ c.pop.new.self.items ++ c.in-Some.r ∷ [] = c.in-Some.ensures.items in
    let from : c.route-from.result.0 ≡ tail l.flow.net c.in-Some.r = c.route-from.ensures.tail ∙ ap (λ (x : Network). tail x c.in-Some.r)
    (c.net.ensures.value ∙ ap (λ (x : Labels). x.flow.net) c.self.view_is) in
    rw (c.insert.ensures, from) (finish_step l _ _ _ _ _ (subst IsLabelling c.self.view_is c.self.invariant) (rw popped at c.path.invariant))

pub route-from-requires : goal.route-from-requires
route-from-requires c =
    let net = c.net.ensures.value ∙ ap (λ (x : Labels). x.flow.net) c.self.view_is in
    let step = All-last (IsStep c.args.self.now) c.pop.new.self.items c.in-Some.r (rw c.in-Some.ensures.items at c.path.invariant.steps) in
    rw net step.has_room.arc
