-- The scale of several lists.
use Rattle.std.proofs.Common.{◌≡◌, ℕ, ◌+◌, ◌<◌, max, List, [], ◌∷◌, ◌++◌, length, drop, get_or, arith, ◌∙◌}
use Rattle.std.specs.List.{flat_map}
use Rattle.std.proofs.lemmas.List.{at_drop_more}
use Rattle.mcf_decimal.specs.declared.decimal.Decimal.{Decimal}
use Rattle.mcf_reading.specs.Reading.{no_route}
use Rattle.mcf_reading.specs.RouteRows.{Route}
use Rattle.mcf_units.specs.Scales.{route_amounts, route_costs, scale_of, step_amounts, step_costs}

pub scale_of-append : (ds es : List Decimal) → scale_of (ds ++ es) ≡ max (scale_of ds) (scale_of es)
scale_of-append [] es = grind arith
scale_of-append (d ∷ ds) es = let rest = scale_of-append ds es in grind (arith, rest)

pub amounts_next : (routes : List Route) (k : ℕ) → k < length routes
    → scale_of (flat_map route_amounts (drop k routes))
    ≡ max (max (get_or routes k no_route).least.places (scale_of (step_amounts ((get_or routes k no_route).steps)))) (scale_of (flat_map route_amounts (drop (k + 1) routes)))
amounts_next routes k below =
    at_drop_more (λ rs. scale_of (flat_map route_amounts rs)) routes k no_route below
    ∙ scale_of-append (route_amounts (get_or routes k no_route)) (flat_map route_amounts (drop (k + 1) routes))

pub costs_next : (routes : List Route) (k : ℕ) → k < length routes
    → scale_of (flat_map route_costs (drop k routes))
    ≡ max (scale_of (step_costs ((get_or routes k no_route).steps))) (scale_of (flat_map route_costs (drop (k + 1) routes)))
costs_next routes k below =
    at_drop_more (λ rs. scale_of (flat_map route_costs rs)) routes k no_route below
    ∙ scale_of-append (route_costs (get_or routes k no_route)) (flat_map route_costs (drop (k + 1) routes))
