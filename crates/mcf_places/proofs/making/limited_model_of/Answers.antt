use Rattle.std.proofs.Common.{rules, ◌≡◌, ◌∙◌, ap, to_z, of_z, w64}
use Rattle.mcf_places.specs.Models.{model_of}
use Rattle.mcf_places.specs.Ways.{with_tables}
use Rattle.mcf_places.proofs.ProperModels.{makes_model, no_error, places_small, tails_inside}
use Rattle.mcf_places.proofs.making.limited_model_of.Goals as goal

pub rows_of-requires-clause-small : goal.rows_of-requires-clause-small
rows_of-requires-clause-small c = places_small c.args.planner.now c.parts-parts.result.places.now c.parts-parts.ensures.places c.parts-parts.ensures.proper

pub rows_of-requires-clause-inside : goal.rows_of-requires-clause-inside
rows_of-requires-clause-inside c =
    tails_inside c.args.planner.now c.parts-parts.result.places.now c.parts-parts.result.steps.now c.parts-parts.result.rows.now c.parts-parts.ensures.places
    c.parts-parts.ensures.routes c.parts-parts.ensures.proper

pub unreachable-requires : goal.unreachable-requires
unreachable-requires c =
    let parts = c.parts-parts.result in
    let most : to_z w64 (of_z w64 c.args.most) ≡ c.args.most = search rules in
    no_error c.of.result c.in-Err.field-0 c.in-Err.is
    (c.of.ensures.proper.1
    (makes_model c.args.most c.args.planner.now parts.places.now parts.steps.now parts.rows.now parts.returning.now parts.policy c.parts-parts.ensures.places
    c.parts-parts.ensures.routes c.parts-parts.ensures.returning c.parts-parts.ensures.policy c.in_ok-supplies.supplies.items c.in_ok-steps.steps.items c.in_ok-rows.rows.items
    c.in_ok-supplies.ensures c.in_ok-steps.ensures
    (c.in_ok-rows.ensures.routes ∙ ap (λ z. (model_of z (with_tables parts.places.now parts.steps.now parts.rows.now parts.returning.now parts.policy)).routes) most)
    c.parts-parts.ensures.proper c.requires c.parts-parts.ensures.listed c.in_ok-rows.ensures.listed))
