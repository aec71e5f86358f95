use Rattle.std.proofs.Common.{◌<◌, length, arith, ap}
use Rattle.mcf_units.specs.Scales.{scale_of, step_amounts, step_costs}
use Rattle.mcf_units.proofs.Scaling.{amounts_next, costs_next}
use Rattle.mcf_units.proofs.scales.with_routes.Goals as goal

pub loop-place-preserved : goal.loop-place-preserved
loop-place-preserved c =
    let least = ap (λ d. d.places) c.route-route.ensures.least in
    let steps = ap (λ s. scale_of (step_amounts s)) c.route-route.ensures.steps in
    let costs = ap (λ s. scale_of (step_costs s)) c.route-route.ensures.steps in
    let below : c.loop-place.place < length c.args.tables.now.routes = omega (arith, c.loop-place-test.true, c.route_count-place-end.ensures) in
    let next = amounts_next c.args.tables.now.routes c.loop-place.place below in
    let next_costs = costs_next c.args.tables.now.routes c.loop-place.place below in
    record {
      amounts = grind (arith, next, least, steps, c.with_route-found.ensures.amounts, c.loop-place.invariant.amounts);
      costs = grind (arith, next_costs, costs, c.with_route-found.ensures.costs, c.loop-place.invariant.costs);
    }
