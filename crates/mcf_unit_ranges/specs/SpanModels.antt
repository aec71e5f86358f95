-- Models whose plans are made of amounts of least reduced cost.
-- Source: own
use Rattle.std.specs.Prelude.{ℕ, false, List, [], ◌∷◌, length, map, replicate, ℤ, pos, None, option_map}
use Rattle.mcf_model.specs.Model.{Model, Route}
use Rattle.mcf_unit_ranges.specs.Changes.{with_units}
use Rattle.mcf_unit_ranges.specs.Spans.{span}

-- a route from u to w for the units that the spans can't take
abbrev pub spare : ℕ → ℕ → Route
spare u w =
    record { tail = u; head = w; least = pos 0; steps = []; last_most = None; last_cost = pos 1; both = false }

-- d units more from u to w, on the spans, or else on the spare route
abbrev pub span_model : List ℤ → Model → ℕ → ℕ → ℤ → Model
span_model prices m u w d =
    record { supplies = (with_units m u w d).supplies; routes = spare u w ∷ map (span prices) m.routes }

-- the amounts by which a route may exceed each amount of its span: any if it has no limit, else 0
abbrev pub freed : Route → Route
freed r = record r { least = pos 0; last_most = option_map (λ most. pos 0) r.last_most }

-- no place sends or takes
abbrev pub still : Model → Model
still m = record m { supplies = replicate (length m.supplies) (pos 0) }

-- one unit from u to w, on spans without a limit alone
abbrev pub free_model : List ℤ → Model → ℕ → ℕ → Model
free_model prices m u w =
    record { supplies = (with_units (still m) u w (pos 1)).supplies; routes = map (λ r. freed (span prices r)) m.routes }
