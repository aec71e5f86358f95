use Rattle.std.proofs.Common.{◌∙◌, map}
use Rattle.mcf_model.specs.Tables.{route_of}
use Rattle.mcf_places.proofs.ArcOrigins.{origin_found}
use Rattle.mcf_places.proofs.ProperModels.{planner_is}
use Rattle.mcf_places.proofs.origins.arc_origin.Goals as goal

pub returns-clause-value : goal.returns-clause-value
returns-clause-value c =
    let P = c.args.planner.now in
    let parts = c.parts-parts.result in
    c.found.ensures
    ∙ origin_found P (record { places = parts.places.now; routes = map (route_of parts.steps.now) parts.rows.now; returning = parts.returning.now; policy = parts.policy }) c.args.arc
    c.seek_route-routes.result c.seek_more-through.result c.seek_more-stay.result c.seek_more-missing.result
    (planner_is P parts.places.now (map (route_of parts.steps.now) parts.rows.now) parts.returning.now parts.policy c.parts-parts.ensures.places c.parts-parts.ensures.routes
    c.parts-parts.ensures.returning c.parts-parts.ensures.policy)
    (λ others. c.seek_route-routes.ensures parts.steps.now others c.parts-parts.ensures.listed) c.seek_more-through.ensures c.seek_more-stay.ensures
    c.seek_more-missing.ensures
