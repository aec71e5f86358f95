use Rattle.std.proofs.Common.{rules, ◌≡◌, ◌∙◌, ap, length, subst}
use Rattle.std.specs.Prelude.{IsTrue, ◌↔◌}
use Rattle.std.specs.List.{range_with_len}
use Rattle.std.proofs.lemmas.List.{length-map}
use Rattle.std.proofs.lemmas.List.FromFn.{length-range_with_len}
use Rattle.mcf_figures.specs.Figures.{IsExact}
use Rattle.mcf_plan_figures.specs.Told.{way_told}
use Rattle.mcf_plan_figures.proofs.figures.plan_figures.Goals as goal

pub places_told-requires-clause-routes : goal.places_told-requires-clause-routes
places_told-requires-clause-routes c =
    let long : c.len.result ≡ length c.in_ok-routes.routes.items = search rules in
    let many = length-map (range_with_len 1 c.route_count.result) (way_told c.args.shown.now c.deref.result.now) in
    long ∙ ap length c.in_ok-routes.ensures.value ∙ many ∙ length-range_with_len 1 c.route_count.result ∙ c.route_count.ensures.value

pub returns-clause-exact : goal.returns-clause-exact
returns-clause-exact c number told h =
    let s = c.args.shown.now in
    subst (λ groups. IsTrue (way_told s groups number).exact ↔ IsExact s.prices.items s.model s.carries.items number) c.in_ok-groups.ensures.value
    (c.in_ok-groups.ensures.exact number h)
