-- Prices of places that show a plan to be least. No network is named here.
-- Source: AMO 9.3, for routes with steps
use Rattle.std.specs.Prelude.{List, ℤ, ◌-ℤ◌, ◌*ℤ◌, ◌≤ℤ◌}
use Rattle.std.specs.List.{AllZip}
use Rattle.mcf_flows.specs.Flow.{IsFeasible, Shows}
use Rattle.mcf_flows.specs.Network.{at_node}
use Rattle.mcf_model.specs.Arcs.{arcs_of, network_of, plan_of, reach_of}
use Rattle.mcf_model.specs.Laws.{IsBounded}
use Rattle.mcf_model.specs.Model.{IsSound, MayCarry, Model, Route, route_cost}

-- how much the price at the tail of a route is above that at its head
abbrev pub price_drop : List ℤ → Route → ℤ
price_drop prices r = at_node prices r.tail -ℤ at_node prices r.head

-- the cost of a route that carries x, less the price at its tail and plus that at its head for each
-- unit
abbrev pub reduced_route_cost : List ℤ → Route → ℤ → ℤ
reduced_route_cost prices r x = route_cost r x -ℤ price_drop prices r *ℤ x

-- the route may carry x, and no other amount that it may carry has less reduced cost
pub record IsBestAt (prices : List ℤ) (r : Route) (x : ℤ) : Type 0 where
  pub may_carry : MayCarry r x
  pub best : (y : ℤ) → MayCarry r y → reduced_route_cost prices r x ≤ℤ reduced_route_cost prices r y

-- each route carries an amount of least reduced cost: the prices show the plan to be least
abbrev pub ShowsPlan : List Route → List ℤ → List ℤ → Type 0
ShowsPlan routes prices plan = AllZip (IsBestAt prices) routes plan

-- prices that show a flow show its plan, even if routes have no limit
abbrev pub ShownFlowsShowPlans : Type 0
ShownFlowsShowPlans =
    (m : Model) (prices flow : List ℤ) → IsSound m → IsBounded m → IsFeasible (network_of (reach_of m) m) flow
    → Shows (arcs_of (reach_of m) m.routes) prices flow → ShowsPlan m.routes prices (plan_of m.routes flow)
