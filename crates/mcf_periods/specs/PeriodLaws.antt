-- The laws between problems over periods and the problems without periods that stand for them.
-- Source: own
use Rattle.std.specs.Prelude.{◌≡◌, ◌≤◌, ℕ, suc, ◌+◌, ◌*◌, length}
use Rattle.std.specs.List.{All}
use Rattle.mcf_flows.specs.Network.{IsNode}
use Rattle.mcf_places.specs.declared.faults.TheConstants.{PLACE_LIMIT}
use Rattle.mcf_places.specs.PlannerFaults.{IsProperPlanner}
use Rattle.mcf_places.specs.Planners.{IsLeastPlan, IsPlan, Plan, cost, total_missing}
use Rattle.mcf_periods.specs.declared.rows.Store.{Store}
use Rattle.mcf_periods.specs.Flat.{flat, flat_plan, period_plan}
use Rattle.mcf_periods.specs.Periods.{Departure, IsLeastPeriodPlan, IsPeriodPlan, PeriodPlan, Periods, all_missing, period_cost}

-- a departure leaves a place, and arrives at one, no later than in the last period
pub record IsOnTime (P : Periods) (d : Departure) : Type 0 where
  pub leaves : IsNode P.count d.route.tail
  pub enters : IsNode P.count d.route.head
  pub departs : 1 ≤ d.period
  pub arrives : (d.period + d.lead) ≤ P.last

-- a store keeps at a place, no later than until the last period
pub record IsInTime (P : Periods) (s : Store) : Type 0 where
  pub keeps_at : IsNode P.count s.place
  pub begins : 1 ≤ s.period
  pub ends : suc s.period ≤ P.last

-- each place is listed in each period, and nothing happens after the last period
pub record IsTimely (P : Periods) : Type 0 where
  pub listed : length P.places ≡ P.count * P.last
  pub few : length P.places ≤ PLACE_LIMIT
  pub departures : All (IsOnTime P) P.departures
  pub stores : All (IsInTime P) P.stores

-- each place is listed in each period, nothing departs before the first period, and nothing arrives
-- or is kept after the last
pub record IsTimed (P : Periods) : Type 0 where
  pub listed : length P.places ≡ P.count * P.last
  pub departures : All (λ d. (1 ≤ d.period) × ((d.period + d.lead) ≤ P.last)) P.departures
  pub stores : All (λ s. (1 ≤ s.period) × (suc s.period ≤ P.last)) P.stores

-- if the problem without periods has no fault, then each end of a route is a place in a period
abbrev pub ProperPeriodsAreTimely : Type 0
ProperPeriodsAreTimely = (P : Periods) → IsTimed P → IsProperPlanner (flat P) → IsTimely P

-- a plan without periods that stands for a plan over periods
pub record IsFlatPlanOf (P : Periods) (x : PeriodPlan) (y : Plan) : Type 0 where
  pub is_plan : IsPlan (flat P) y
  pub same_cost : cost (flat P) y ≡ period_cost P x
  pub same_missing : total_missing (flat P) y ≡ all_missing P x
  pub back_again : period_plan P y ≡ x

-- a plan over periods that a plan without periods stands for
pub record IsPeriodPlanOf (P : Periods) (y : Plan) (x : PeriodPlan) : Type 0 where
  pub is_plan : IsPeriodPlan P x
  pub same_cost : period_cost P x ≡ cost (flat P) y
  pub same_missing : all_missing P x ≡ total_missing (flat P) y
  pub back_again : flat_plan x ≡ y

-- each plan over periods is a plan without them, in which as much is missing, at the same cost, and
-- each plan without periods is such a plan
pub record PeriodPlansAreFlat : Type 0 where
  pub period_plans_are_flat : (P : Periods) (x : PeriodPlan) → IsTimely P → IsPeriodPlan P x → IsFlatPlanOf P x (flat_plan x)
  pub flat_plans_are_period_plans : (P : Periods) (y : Plan) → IsTimely P → IsPlan (flat P) y → IsPeriodPlanOf P y (period_plan P y)

-- a least plan without periods is a least plan over periods
abbrev pub LeastFlatPlansAreLeast : Type 0
LeastFlatPlansAreLeast = (P : Periods) (y : Plan) → IsTimely P → IsLeastPlan (flat P) y → IsLeastPeriodPlan P (period_plan P y)
