-- The answers for a problem over periods.
-- Source: own
use Rattle.std.specs.Prelude.{◌≡◌, ℤ, pos, ◌≤ℤ◌}
use Rattle.mcf_places.specs.declared.answering.LeastPlannerPlan.{LeastPlannerPlan}
use Rattle.mcf_places.specs.declared.answering.PlannerAnswer.{PlannerAnswer}
use Rattle.mcf_places.specs.declared.answering.PlannerAnswer.TheVariants.{Beyond, Least, NoPlan}
use Rattle.mcf_places.specs.Answers.{IsPlannerAnswer}
use Rattle.mcf_places.specs.Planning.{plan_in}
use Rattle.mcf_periods.specs.FinerPeriods.{finer_period_plan, finer_periods}
use Rattle.mcf_periods.specs.Flat.{flat, period_plan}
use Rattle.mcf_periods.specs.PeriodLaws.{IsTimely}
use Rattle.mcf_periods.specs.Periods.{IsLeastPeriodPlan, IsPeriodPlan, PeriodPlan, Periods, all_missing, period_cost}

-- the plan over periods that an answer for the problem without periods tells
abbrev pub plan_over : Periods → LeastPlannerPlan → PeriodPlan
plan_over P p = period_plan P (plan_in p.plan)

-- a least plan over periods, its cost, and what is missing in all periods; no plan in finer units
-- is better either
pub record IsBestPeriodPlan (P : Periods) (p : LeastPlannerPlan) : Type 0 where
  pub least : IsLeastPeriodPlan P (plan_over P p)
  pub cost_is : p.cost ≡ period_cost P (plan_over P p)
  pub missing_is : p.missing ≡ all_missing P (plan_over P p)
  pub least_in_finer_units : (k : ℤ) → pos 1 ≤ℤ k → IsLeastPeriodPlan (finer_periods k P) (finer_period_plan k (plan_over P p))

-- there is no plan, in finer units either
pub record HasNoPeriodPlan (P : Periods) : Type 0 where
  pub none : (x : PeriodPlan) → ¬ IsPeriodPlan P x
  pub none_in_finer_units : (k : ℤ) (x : PeriodPlan) → pos 1 ≤ℤ k → ¬ IsPeriodPlan (finer_periods k P) x

-- A least plan over periods; or that there is no plan; or the answer of the problem without periods
-- that a number is beyond the limits.
abbrev pub IsPeriodAnswer : Periods → PlannerAnswer → Type 0
IsPeriodAnswer P (Least p) = IsBestPeriodPlan P p
IsPeriodAnswer P (NoPlan b) = HasNoPeriodPlan P
IsPeriodAnswer P (Beyond fault) = IsPlannerAnswer (flat P) (Beyond fault)

-- the answer for the problem without periods is the answer for the problem over periods
abbrev pub FlatAnswersArePeriodAnswers : Type 0
FlatAnswersArePeriodAnswers = (P : Periods) (answer : PlannerAnswer) → IsTimely P → IsPlannerAnswer (flat P) answer → IsPeriodAnswer P answer
