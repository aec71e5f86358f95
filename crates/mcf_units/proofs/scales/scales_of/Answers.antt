use Rattle.std.proofs.Common.{◌≡◌, arith, ap, ◌++◌, ◌∙◌}
use Rattle.std.specs.List.{flat_map}
use Rattle.mcf_units.specs.Scales.{amounts, costs, given_number, place_amounts, place_costs, route_amounts, route_costs, scale_of}
use Rattle.mcf_units.proofs.Scaling.{scale_of-append}
use Rattle.mcf_units.proofs.scales.scales_of.Goals as goal

pub returns : goal.returns
returns c =
    let said = c.args.tables.now in
    let same = ap (λ ps. scale_of (flat_map place_amounts ps)) c.places.ensures in
    let same_costs = ap (λ ps. scale_of (flat_map place_costs ps)) c.places.ensures in
    let both = scale_of-append (flat_map place_amounts said.places) (flat_map route_amounts said.routes) in
    let both_costs = scale_of-append (flat_map place_costs said.places) (flat_map route_costs said.routes) in
    let all_costs = scale_of-append (given_number c.args.penalty) (flat_map place_costs said.places ++ flat_map route_costs said.routes) in
    let of_amounts : c.with_routes.result.amounts ≡ scale_of (amounts said) =
    grind (arith, same, both, c.with_places-with_all_places.ensures.amounts, c.with_routes.ensures.amounts) in
    let of_costs : c.with_routes.result.costs ≡ scale_of (costs said c.args.penalty) =
    grind (arith, same_costs, both_costs, all_costs, c.with_limit.ensures, c.with_places-with_all_places.ensures.costs, c.with_routes.ensures.costs) in
    ap (λ n. record { amounts = n; costs = c.with_routes.result.costs }) of_amounts ∙ ap (λ n. record { amounts = scale_of (amounts said); costs = n }) of_costs
