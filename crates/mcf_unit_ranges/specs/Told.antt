-- Of which models it is told for how many units the prices hold.
-- Source: own
use Rattle.std.specs.Prelude.{◌≡◌, ℕ, List, ℤ, pos, Option, None, IfSome, ◌⊎◌}
use Rattle.std.specs.List.{All}
use Rattle.mcf_flows.specs.Limits.{limits}
use Rattle.mcf_flows.specs.Network.{at_node}
use Rattle.mcf_flows.specs.WellFormed.{IsUpTo}
use Rattle.mcf_instance.specs.Arrays.{array_fault}
use Rattle.mcf_model.specs.Arcs.{network_of, reach_of}
use Rattle.mcf_model.specs.Model.{IsPlan, Model, Route}
use Rattle.mcf_figures.specs.Figures.{figure_limit}
use Rattle.mcf_figures.specs.FigureLaws.{IsPriced}
use Rattle.mcf_unit_ranges.specs.declared.limits.TheConstants.{UNITS_LIMIT}
use Rattle.mcf_unit_ranges.specs.SpanModels.{free_model, span_model}
use Rattle.mcf_unit_ranges.specs.Spans.{span}
use Rattle.mcf_unit_ranges.specs.UnitRanges.{HoldsFor, IsRoomRange, IsUnitsRange}

-- the range of each plan that the prices show to be least
abbrev pub IsRangeAt : Model → List ℤ → ℕ → ℕ → Option ℤ → Type 0
IsRangeAt m prices u w most = (plan : List ℤ) → IsPriced m prices plan → IsUnitsRange m prices plan u w most

-- the same, of room on a route
abbrev pub IsRoomRangeAt : Model → List ℤ → ℕ → Option ℤ → Type 0
IsRoomRangeAt m prices k most = (plan : List ℤ) → IsPriced m prices plan → IsRoomRange m prices plan k most

-- what the prices say holds for as many units as are looked at, with each plan that they show to be
-- least
abbrev pub HoldsForAll : Model → List ℤ → ℕ → ℕ → Type 0
HoldsForAll m prices u w = (plan : List ℤ) → IsPriced m prices plan → HoldsFor m prices plan u w (pos UNITS_LIMIT)

-- the lowest and the highest amount of the route's span are within the limit of bounds
pub record HasSmallSpan (prices : List ℤ) (r : Route) : Type 0 where
  pub least : IsUpTo limits.bound (span prices r).least
  pub most : IfSome (span prices r).last_most (IsUpTo limits.bound)

-- no number of the model's network is beyond the limits
abbrev pub FitsLimits : Model → Type 0
FitsLimits m = array_fault limits (network_of (reach_of m) m) ≡ None

-- no number is beyond the limits: of the prices, of the supplies at u and w, of the spans, and of
-- their models
pub record AreWithinLimits (m : Model) (prices : List ℤ) (u w : ℕ) : Type 0 where
  pub prices_small : All (IsUpTo figure_limit) prices
  pub first_small : IsUpTo limits.supply (at_node m.supplies u)
  pub second_small : IsUpTo limits.supply (at_node m.supplies w)
  pub spans_small : All (HasSmallSpan prices) m.routes
  pub free_fits : FitsLimits (free_model prices m u w)
  pub spans_fit : FitsLimits (span_model prices m u w (pos UNITS_LIMIT))

-- no plan moves a unit from u to w on spans without a limit
abbrev pub IsClosed : Model → List ℤ → ℕ → ℕ → Type 0
IsClosed m prices u w = (plan : List ℤ) → ¬ IsPlan (free_model prices m u w) plan

-- why no range is told: a number is beyond the limits; or no unit moves on spans without a limit,
-- and what the prices say holds for all units that are looked at
abbrev pub IsUntold : Model → List ℤ → ℕ → ℕ → Type 0
IsUntold m prices u w = (¬ AreWithinLimits m prices u w) ⊎ (IsClosed m prices u w × HoldsForAll m prices u w)
