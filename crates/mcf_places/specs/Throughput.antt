-- All amounts of a problem together, by their absolute values. Where all routes have limits, no
-- plan brings more to a place, so no plan fills a limit of one more.
-- Source: own
use Rattle.std.specs.Prelude.{ℕ, suc, ◌≤◌, Bool, List, [], ◌∷◌, ℤ, pos, ◌+ℤ◌, int_lt, Option, Some, None}
use Rattle.std.specs.Int.{int_min}
use Rattle.mcf_flows.specs.Network.{when}
use Rattle.mcf_model.specs.Bottlenecks.{limit_or_zero, route_sum}
use Rattle.mcf_model.specs.declared.rows.Step.{Step}
use Rattle.mcf_model.specs.Model.{Route, size}
use Rattle.mcf_places.specs.declared.limits.TheConstants.{THROUGHPUT_LIMIT}
use Rattle.mcf_places.specs.declared.places.Bounds.{Bounds}
use Rattle.mcf_places.specs.declared.places.Place.{Place}
use Rattle.mcf_places.specs.Planners.{place_sum}

-- the absolute values of the capacities of steps together
abbrev pub steps_span : List Step → ℤ
steps_span [] = pos 0
steps_span (s ∷ steps) = size s.most +ℤ steps_span steps

-- those of a route: of its least amount, and of its steps
abbrev pub route_span : Route → ℤ
route_span r = size r.least +ℤ (size (limit_or_zero r.last_most) +ℤ steps_span r.steps)

-- those of a route, for each way that it is used
abbrev pub ways_span : Route → ℤ
ways_span r = route_span r +ℤ when r.both (route_span r)

-- those of bounds
abbrev pub bounds_span : Option Bounds → ℤ
bounds_span (Some b) = size b.least +ℤ size (limit_or_zero b.most)
bounds_span None = pos 0

-- those of a place
abbrev pub place_span : Place → ℤ
place_span p = size p.supply +ℤ bounds_span p.through

-- the absolute values of all amounts of a problem together
abbrev pub throughput : List Place → List Route → ℤ
throughput places routes = place_sum (λ v p. place_span p) 1 places +ℤ route_sum ways_span routes

-- one more than all amounts together: a limit that no plan fills
abbrev pub ample_limit : List Place → List Route → ℤ
ample_limit places routes = pos 1 +ℤ throughput places routes

-- a sum, or one more than the greatest limit if it is beyond that
abbrev pub cut : ℤ → ℤ
cut z = int_min z (pos (suc THROUGHPUT_LIMIT))

-- a sum that is cut so
abbrev pub IsCut : ℕ → Type 0
IsCut sum = sum ≤ suc THROUGHPUT_LIMIT

-- the limit that no plan fills is greater than a limit may be
abbrev pub is_beyond : List Place → List Route → Bool
is_beyond places routes = int_lt (pos THROUGHPUT_LIMIT) (ample_limit places routes)
