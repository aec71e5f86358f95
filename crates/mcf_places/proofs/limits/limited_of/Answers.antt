use Rattle.std.proofs.Common.{◌≡◌, ◌∙◌, ap, rules, to_z, of_z, w64}
use Rattle.std.specs.Prelude.{Some, map}
use Rattle.mcf_places.specs.LimitedPlanners.{limited_place}
use Rattle.mcf_places.proofs.ProperLimits.{makes_limited}
use Rattle.mcf_places.proofs.limits.limited_of.Goals as goal

pub invariant_of-result : goal.invariant_of-result
invariant_of-result c =
    let parts = c.parts-parts.result in
    let kept : to_z w64 (of_z w64 c.args.limit) ≡ c.args.limit = search rules in
    makes_limited c.args.planner.now c.args.limit c.requires parts.places.now c.in_ok-places.places.items parts.steps.now c.in_ok-steps.steps.items
    parts.rows.now c.in_ok-rows.rows.items parts.returning.now c.in_ok-returning.returning.items parts.policy c.parts-parts.ensures.places
    c.parts-parts.ensures.routes c.parts-parts.ensures.returning c.parts-parts.ensures.policy
    (c.in_ok-places.ensures ∙ ap (λ z. map (limited_place (Some z)) parts.places.now) kept) c.in_ok-steps.ensures c.in_ok-rows.ensures
    c.in_ok-returning.ensures c.parts-parts.ensures.proper c.parts-parts.ensures.listed
