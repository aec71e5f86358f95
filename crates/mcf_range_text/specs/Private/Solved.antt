-- Answers whose problems, if they have one, were solved.
use Rattle.std.specs.Prelude.{◌≡◌, ◌++◌, List, Option}
use Rattle.mcf_answer_rows.specs.Lines.{rows_text}
use Rattle.mcf_answer_rows.specs.declared.texts.PlanText.{PlanText}
use Rattle.mcf_flow_tables.specs.declared.answering.ProblemAnswer.{ProblemAnswer}
use Rattle.mcf_flow_tables.specs.declared.answering.ProblemAnswer.TheVariants.{TooGreat, Improper, Solved}
use Rattle.mcf_flow_tables.specs.declared.answering.TableAnswer.{TableAnswer}
use Rattle.mcf_flow_tables.specs.declared.answering.TableAnswer.TheVariants.{Faults, Periods, Problem}
use Rattle.mcf_flow_tables.specs.declared.flow_answer.FlowAnswer.{FlowAnswer}
use Rattle.mcf_flow_tables.specs.declared.flow_answer.FlowAnswer.TheVariants.{NoColumns, NoTables, Tables}
use Rattle.mcf_flow_tables.specs.declared.period_answer.PeriodAnswer.{PeriodAnswer}
use Rattle.mcf_flow_tables.specs.declared.period_answer.PeriodAnswer.TheVariants as period
use Rattle.mcf_places.specs.Answers.{IsPlannerAnswer}
use Rattle.mcf_plan_text.specs.PlanTexts.{answer_kind, answer_rows}
use Rattle.mcf_range_text.specs.RangeTexts.{AreRanges, range_rows}
use Rattle.mcf_range_text.specs.UnitRangeTexts.{AreUnits, unit_rows}
use Rattle.mcf_range_text.specs.declared.units.UnitRanges.{UnitRanges}
use Rattle.mcf_ranges.specs.declared.range.CostRange.{CostRange}

-- the answer to what tables say
abbrev pub IsSolvedProblem : ProblemAnswer → Type 0
IsSolvedProblem (TooGreat faults) = Unit {0}
IsSolvedProblem (Improper faults) = Unit {0}
IsSolvedProblem (Solved s) = IsPlannerAnswer s.planner s.answer

-- the answer to two tables over periods
abbrev pub IsSolvedPeriods : PeriodAnswer → Type 0
IsSolvedPeriods (period.Faults faults) = Unit {0}
IsSolvedPeriods (period.TooGreat faults) = Unit {0}
IsSolvedPeriods (period.Improper improper) = Unit {0}
IsSolvedPeriods (period.Solved s) = IsPlannerAnswer s.planner s.answer

-- the answer to the rows of two tables
abbrev pub IsSolvedTable : TableAnswer → Type 0
IsSolvedTable (Faults faults) = Unit {0}
IsSolvedTable (Problem answer) = IsSolvedProblem answer
IsSolvedTable (Periods answer) = IsSolvedPeriods answer

-- the answer to two texts
abbrev pub IsSolvedAnswer : FlowAnswer → Type 0
IsSolvedAnswer (NoTables broken) = Unit {0}
IsSolvedAnswer (NoColumns numbers) = Unit {0}
IsSolvedAnswer (Tables said) = IsSolvedTable said.answer

-- ---- their texts

-- the text says an answer, then the ranges of its routes, and then for how many units the prices
-- hold
pub record IsToldWithRanges (answer : FlowAnswer) (text : PlanText) : Type 0 where
  pub ranges : List (Option CostRange)
  pub are_ranges : AreRanges answer ranges
  pub units : UnitRanges
  pub are_units : AreUnits answer units
  pub text_is : text.text.items ≡ rows_text (answer_rows answer ++ (range_rows answer ranges ++ unit_rows answer units))
  pub kind_is : text.kind ≡ answer_kind answer
