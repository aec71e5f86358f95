-- What is told of one route, by its numbers.
-- Source: own
use Rattle.std.specs.Prelude.{◌≡◌, ℕ, ◌<◌, ◌^◌, Bool, true, ◌&&◌, if◌then◌else◌, int_le, List, length, ℤ, pos, neg_ℤ, Option, Some, None, slice_index_or, ◌↔◌}
use Rattle.std.specs.List.{list_all}
use Rattle.mcf_flows.specs.Network.{at_node}
use Rattle.mcf_flows.specs.WellFormed.{IsUpTo}
use Rattle.mcf_model.specs.Model.{Model, Route, route_cost}
use Rattle.mcf_model.specs.Tables.{no_route}
use Rattle.mcf_figures.specs.declared.figures.RouteFigures.{RouteFigures}
use Rattle.mcf_figures.specs.Figures.{IsLoose, dearer, figure_limit, free, saving}

-- the figures of a route that carries x
pub record AreRouteFigures (prices : List ℤ) (r : Route) (x : ℤ) (f : RouteFigures) : Type 0 where
  pub free_is : f.free ≡ free r x
  pub saves_is : f.saves ≡ saving prices r
  pub loose_is : (f.loose ≡ true) ↔ IsLoose prices r x
  pub dearer_is : f.dearer ≡ dearer prices r x

-- the amount and both prices are within the limit of figures
pub record AreSmall (x tail head : ℤ) : Type 0 where
  pub amount : IsUpTo figure_limit x
  pub at_tail : IsUpTo figure_limit tail
  pub at_head : IsUpTo figure_limit head

-- there is such a route, and its numbers are within the limit of figures
pub record HasFigures (m : Model) (prices plan : List ℤ) (place : ℕ) : Type 0 where
  pub is_route : place < length m.routes
  pub small : AreSmall (slice_index_or plan place (pos 0)) (at_node prices (slice_index_or m.routes place no_route).tail)
      (at_node prices (slice_index_or m.routes place no_route).head)

-- ---- tests of numbers

-- the test of a number that is within a limit
abbrev pub is_up_to : ℕ → ℤ → Bool
is_up_to limit z = int_le (neg_ℤ (pos limit)) z && int_le z (pos limit)

-- the test of numbers that are all within the limit of figures
abbrev pub are_small : List ℤ → Bool
are_small numbers = list_all (is_up_to figure_limit) numbers

-- ---- costs

-- the greatest amount whose cost is told
abbrev pub cost_limit : ℕ
cost_limit = 10 ^ 18

-- the cost of what a route carries, if the amount is within that limit
abbrev pub cost_told : Route → ℤ → Option ℤ
cost_told r x = if is_up_to cost_limit x then Some (route_cost r x) else None
