-- By how much the cost of a unit that a store keeps, or that a departure carries, may change while
-- a plan over periods stays least.
-- Source: AMO 9.11, for problems over periods
use Rattle.std.specs.Prelude.{◌≡◌, ℕ, ◌+◌, ◌-◌, List, length, ℤ, pos, ◌+ℤ◌, Option, Some, None, IfSome, slice_index_or, slice_set, ◌↔◌}
use Rattle.mcf_flow_tables.specs.PeriodTableAnswers.{IsSolvedOver}
use Rattle.mcf_flow_tables.specs.declared.period_answer.PeriodAnswer.TheVariants.{Solved}
use Rattle.mcf_flow_tables.specs.declared.period_answer.SolvedPeriods.{SolvedPeriods}
use Rattle.mcf_flows.specs.Network.{IsNode}
use Rattle.mcf_model.specs.Tables.{no_route}
use Rattle.mcf_period_units.specs.Made.{periods_in}
use Rattle.mcf_period_units.specs.PeriodEntries.{PeriodEntries}
use Rattle.mcf_period_units.specs.declared.origins.PeriodOrigins.{PeriodOrigins}
use Rattle.mcf_periods.specs.declared.rows.Store.{Store}
use Rattle.mcf_periods.specs.Flat.{flat, period_plan}
use Rattle.mcf_periods.specs.PeriodAnswers.{plan_over}
use Rattle.mcf_periods.specs.PeriodLaws.{IsTimely}
use Rattle.mcf_periods.specs.Periods.{Departure, IsLeastPeriodPlan, PeriodPlan, Periods}
use Rattle.mcf_places.specs.declared.answering.LeastPlannerPlan.{LeastPlannerPlan}
use Rattle.mcf_places.specs.declared.answering.PlannerAnswer.TheVariants.{Least}
use Rattle.mcf_places.specs.PlannerLaws.{IsSound}
use Rattle.mcf_places.specs.Planners.{Plan}
use Rattle.mcf_plan_ranges.specs.Changes.{dearer}
use Rattle.mcf_planner_ranges.specs.PlannerRanges.{IsPlannerRange}
use Rattle.mcf_ranges.specs.declared.range.CostRange.{CostRange}
use Rattle.mcf_ranges.specs.Ranges.{IsInRange}
use Rattle.mcf_units.specs.declared.terms.Terms.{Terms}
use Rattle.mcf_range_text.specs.PeriodRangeTexts.{ArePeriodRanges}

-- ---- dearer problems

-- the store, each unit in which costs d more
abbrev pub dearer_store : ℤ → Store → Store
dearer_store d s = record s { cost = s.cost +ℤ d }

-- the departure, each unit of which costs d more
abbrev pub dearer_departure : ℤ → Departure → Departure
dearer_departure d x = record x { route = dearer d x.route }

-- what stands beyond the last store
abbrev pub no_store : Store
no_store = record { place = 0; period = 0; most = Some (pos 0); cost = pos 0 }

-- what stands beyond the last departure
abbrev pub no_departure : Departure
no_departure = record { route = no_route; period = 0; lead = 0 }

-- the problem in which each unit that store k keeps costs d more
abbrev pub with_dearer_store : Periods → ℕ → ℤ → Periods
with_dearer_store P k d = record P { stores = slice_set P.stores (k - 1) (dearer_store d (slice_index_or P.stores (k - 1) no_store)) }

-- the problem in which each unit that departure k carries costs d more
abbrev pub with_dearer_departure : Periods → ℕ → ℤ → Periods
with_dearer_departure P k d =
    record P { departures = slice_set P.departures (k - 1) (dearer_departure d (slice_index_or P.departures (k - 1) no_departure)) }

-- ---- ranges

-- exactly the changes in the range, from 0 down and up, of the cost of what store k keeps keep the
-- plan least
abbrev pub IsStoreRange : Periods → PeriodPlan → ℕ → CostRange → Type 0
IsStoreRange P x k range = (d : ℤ) → IsInRange (pos 0) range d ↔ IsLeastPeriodPlan (with_dearer_store P k d) x

-- the same of what departure k carries
abbrev pub IsDepartureRange : Periods → PeriodPlan → ℕ → CostRange → Type 0
IsDepartureRange P x k range = (d : ℤ) → IsInRange (pos 0) range d ↔ IsLeastPeriodPlan (with_dearer_departure P k d) x

-- those of stores that are told, and then those of departures, are ranges of the plan
pub record AreRangesOver (P : Periods) (x : PeriodPlan) (ranges : List (Option CostRange)) : Type 0 where
  pub stores : (k : ℕ) → IsNode (length P.stores) k → IfSome (slice_index_or ranges (k - 1) None) (IsStoreRange P x k)
  pub departures : (k : ℕ) → IsNode (length P.departures) k → IfSome (slice_index_or ranges (length P.stores + k - 1) None) (IsDepartureRange P x k)

-- ---- the laws

-- a range of a route of the problem without periods is one of the store, or of the departure, that
-- the route stands for
pub record FlatRangesArePeriodRanges : Type 0 where
  pub stores : (P : Periods) (y : Plan) (k : ℕ) (range : CostRange) → IsTimely P → IsSound (flat P) → IsNode (length P.stores) k
      → IsPlannerRange (flat P) y k range → IsStoreRange P (period_plan P y) k range
  pub departures : (P : Periods) (y : Plan) (k : ℕ) (range : CostRange) → IsTimely P → IsSound (flat P) → IsNode (length P.departures) k
      → IsPlannerRange (flat P) y (length P.stores + k) range → IsDepartureRange P (period_plan P y) k range

-- each store and each departure of a problem has one origin
pub record HaveOrigins (P : Periods) (origins : PeriodOrigins) : Type 0 where
  pub by_store : length origins.stores.items ≡ length P.stores
  pub by_departure : length origins.departures.items ≡ length P.departures

-- What is told of the answer to what tables say over periods has a place for each store and each
-- departure of their problem, in the order of their origins, and the ranges that are told are those
-- of the plan over periods.
abbrev pub ToldRangesArePeriodRanges : Type 0
ToldRangesArePeriodRanges =
    (E : PeriodEntries) (terms : Terms) (s : SolvedPeriods) (p : LeastPlannerPlan) (ranges : List (Option CostRange)) → IsSolvedOver E terms (Solved s)
    → s.answer ≡ Least p → ArePeriodRanges (Solved s) ranges
    → HaveOrigins (periods_in s.scales E terms) s.origins
    × AreRangesOver (periods_in s.scales E terms) (plan_over (periods_in s.scales E terms) p) ranges
