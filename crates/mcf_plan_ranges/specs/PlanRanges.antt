-- By how much the cost of a unit on a route may change while a plan stays least.
-- Source: AMO 9.11, for routes with steps
use Rattle.std.specs.Prelude.{◌≡◌, ℕ, ◌≤◌, ◌*◌, List, length, ℤ, pos, ◌↔◌}
use Rattle.std.specs.List.{All}
use Rattle.mcf_engine.specs.SmallPrices.{price_limit}
use Rattle.mcf_figures.specs.Figures.{figure_limit}
use Rattle.mcf_flows.specs.Limits.{arc_limit, limits, node_limit}
use Rattle.mcf_flows.specs.WellFormed.{IsUpTo}
use Rattle.mcf_model.specs.Model.{IsLeastPlan, IsSound, Model, Route}
use Rattle.mcf_plan_ranges.specs.Changes.{with_dearer}
use Rattle.mcf_ranges.specs.declared.range.CostRange.{CostRange}
use Rattle.mcf_ranges.specs.Ranges.{IsInRange}

-- exactly the changes in the range, from 0 down and up, keep the model sound and the plan least
abbrev pub IsPlanRange : Model → List ℤ → ℕ → CostRange → Type 0
IsPlanRange m plan k range = (d : ℤ) → IsInRange (pos 0) range d ↔ (IsSound (with_dearer m k d) × IsLeastPlan (with_dearer m k d) plan)

-- ---- of which models ranges are told

-- no cost of the route is further from 0 than costs of arcs
pub record HasSmallCosts (r : Route) : Type 0 where
  pub steps : All (λ s. IsUpTo limits.cost s.cost) r.steps
  pub last : IsUpTo limits.cost r.last_cost

-- a model, prices, one for each place, and a plan, whose numbers are within the limits
pub record AreWithinLimits (m : Model) (prices plan : List ℤ) : Type 0 where
  pub places : length m.supplies ≤ node_limit
  pub routes : 2 * length m.routes ≤ arc_limit
  pub costs : All HasSmallCosts m.routes
  pub one_per_place : length prices ≡ length m.supplies
  pub prices_small : All (IsUpTo price_limit) prices
  pub amounts_small : All (IsUpTo figure_limit) plan
