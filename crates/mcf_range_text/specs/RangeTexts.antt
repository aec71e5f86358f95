-- The answer to two tables with the ranges of the costs of routes, as the text of a table.
-- Source: own
use Rattle.std.specs.Prelude.{◌≡◌, ℕ, suc, ◌<◌, ◌==◌, Bool, true, false, List, [], ◌∷◌, ◌++◌, codes, decimal, length, Option, Some, None, IfNone, IfSome, slice_index_or, ◌⊎◌}
use Rattle.std.specs.List.{list_any}
use Rattle.mcf_answer_rows.specs.AnswerRows.{cell_under, line_at}
use Rattle.mcf_answer_rows.specs.Lines.{comma}
use Rattle.mcf_answer_rows.specs.declared.texts.PlanText.{PlanText}
use Rattle.mcf_flow_tables.specs.TableAnswers.{FlowBytes, IsFlowAnswer}
use Rattle.mcf_flow_tables.specs.declared.answering.ProblemAnswer.{ProblemAnswer}
use Rattle.mcf_flow_tables.specs.declared.answering.ProblemAnswer.TheVariants.{TooGreat, Improper, Solved}
use Rattle.mcf_flow_tables.specs.declared.answering.TableAnswer.{TableAnswer}
use Rattle.mcf_flow_tables.specs.declared.answering.TableAnswer.TheVariants.{Faults, Periods, Problem}
use Rattle.mcf_flow_tables.specs.declared.flow_answer.FlowAnswer.{FlowAnswer}
use Rattle.mcf_flow_tables.specs.declared.flow_answer.FlowAnswer.TheVariants.{NoColumns, NoTables, Tables}
use Rattle.mcf_flow_tables.specs.declared.options.Options.{Options}
use Rattle.mcf_places.specs.declared.answering.LeastPlannerPlan.{LeastPlannerPlan}
use Rattle.mcf_places.specs.declared.answering.PlannerAnswer.{PlannerAnswer}
use Rattle.mcf_places.specs.declared.answering.PlannerAnswer.TheVariants.{Beyond, Least, NoPlan}
use Rattle.mcf_places.specs.Planners.{Planner, row_count}
use Rattle.mcf_places.specs.Planning.{plan_in}
use Rattle.mcf_plan_ranges.specs.PlanRanges.{AreWithinLimits}
use Rattle.mcf_plan_rows.specs.FaultRows.{TwoTables}
use Rattle.mcf_plan_text.specs.PlanTexts.{IsPlanText, answer_kind, answer_rows, said_tables}
use Rattle.mcf_planner_ranges.specs.PlannerRanges.{IsPlannerRange}
use Rattle.mcf_ranges.specs.declared.range.CostRange.{CostRange}
use Rattle.mcf_table.specs.Texts.{Record}
use Rattle.mcf_table.specs.Written.{table_text}
use Rattle.mcf_units.specs.declared.scales.Scales.{Scales}
use Rattle.mcf_range_text.specs.PeriodRangeTexts.{ArePeriodRanges, end_cells, period_range_rows}
use Rattle.mcf_range_text.specs.UnitRangeTexts.{AreUnits, unit_rows}
use Rattle.mcf_range_text.specs.declared.units.UnitRanges.{UnitRanges}

-- ---- ranges

-- the row has a way back of its own
abbrev pub has_way_back : Planner → ℕ → Bool
has_way_back P row = list_any (λ k. k == row) P.returning

-- what is told of a row: the range of the cost of its route; or none, if the row has a way back of
-- its own, or if numbers are beyond the limits of ranges
pub record IsRowRange (P : Planner) (p : LeastPlannerPlan) (row : ℕ) (told : Option CostRange) : Type 0 where
  pub asked : IfSome told (λ range. has_way_back P row ≡ false)
  pub exact : IfSome told (IsPlannerRange P (plan_in p.plan) row)
  pub none : IfNone told ((has_way_back P row ≡ true) ⊎ (¬ AreWithinLimits p.shown.model p.shown.prices.items p.shown.carries.items))

-- what is told of all rows, in order
pub record AreRowRanges (P : Planner) (p : LeastPlannerPlan) (ranges : List (Option CostRange)) : Type 0 where
  pub by_row : length ranges ≡ row_count P
  pub each : (place : ℕ) → place < row_count P → IsRowRange P p (suc place) (slice_index_or ranges place None)

-- what is told of an answer: nothing, unless it is a least plan
abbrev pub AreSolvedRanges : Planner → PlannerAnswer → List (Option CostRange) → Type 0
AreSolvedRanges P (Least p) ranges = AreRowRanges P p ranges
AreSolvedRanges P (NoPlan bottleneck) ranges = ranges ≡ []
AreSolvedRanges P (Beyond fault) ranges = ranges ≡ []

-- of the answer to what tables say
abbrev pub AreProblemRanges : ProblemAnswer → List (Option CostRange) → Type 0
AreProblemRanges (TooGreat faults) ranges = ranges ≡ []
AreProblemRanges (Improper faults) ranges = ranges ≡ []
AreProblemRanges (Solved s) ranges = AreSolvedRanges s.planner s.answer ranges

-- of the answer to the rows of two tables; over periods, of each store and each departure
abbrev pub AreTableRanges : TableAnswer → List (Option CostRange) → Type 0
AreTableRanges (Faults faults) ranges = ranges ≡ []
AreTableRanges (Problem answer) ranges = AreProblemRanges answer ranges
AreTableRanges (Periods answer) ranges = ArePeriodRanges answer ranges

-- of the answer to two texts
abbrev pub AreRanges : FlowAnswer → List (Option CostRange) → Type 0
AreRanges (NoTables broken) ranges = ranges ≡ []
AreRanges (NoColumns numbers) ranges = ranges ≡ []
AreRanges (Tables said) ranges = AreTableRanges said.answer ranges

-- ---- their rows

-- the range of the route of a row: `range`, its line, its ends, and the ends of the range
abbrev pub range_row : Scales → List Record → ℕ → CostRange → List (List ℕ)
range_row scales routes row range =
    codes "range" ∷ decimal (line_at routes row) ∷ cell_under (codes "from") routes row ∷ cell_under (codes "to") routes row ∷ end_cells scales range

-- the ranges that are told of rows, of which the first has a given number
abbrev pub told_rows : Scales → List Record → ℕ → List (Option CostRange) → List (List (List ℕ))
told_rows scales routes row [] = []
told_rows scales routes row (Some range ∷ ranges) = range_row scales routes row range ∷ told_rows scales routes (suc row) ranges
told_rows scales routes row (None ∷ ranges) = told_rows scales routes (suc row) ranges

-- those of an answer to what tables say
abbrev pub problem_range_rows : List Record → ProblemAnswer → List (Option CostRange) → List (List (List ℕ))
problem_range_rows routes (TooGreat faults) ranges = []
problem_range_rows routes (Improper faults) ranges = []
problem_range_rows routes (Solved s) ranges = told_rows s.scales routes 1 ranges

-- of the answer to the rows of two tables
abbrev pub table_range_rows : TwoTables → TableAnswer → List (Option CostRange) → List (List (List ℕ))
table_range_rows two (Faults faults) ranges = []
table_range_rows two (Problem answer) ranges = problem_range_rows two.routes answer ranges
table_range_rows two (Periods answer) ranges = period_range_rows two answer ranges

-- of the answer to two texts
abbrev pub range_rows : FlowAnswer → List (Option CostRange) → List (List (List ℕ))
range_rows (NoTables broken) ranges = []
range_rows (NoColumns numbers) ranges = []
range_rows (Tables said) ranges = table_range_rows (said_tables said) said.answer ranges

-- ---- the text

-- the text says an answer to two texts, then the ranges of its routes, or of its departures and its
-- stores, and then for how many units the prices hold: its rows, each cell between quotes, with
-- commas between them
pub record IsRangedText (texts : FlowBytes) (options : Options) (text : PlanText) : Type 0 where
  pub answer : FlowAnswer
  pub answers : IsFlowAnswer texts options answer
  pub ranges : List (Option CostRange)
  pub are_ranges : AreRanges answer ranges
  pub units : UnitRanges
  pub are_units : AreUnits answer units
  pub text_is : text.text.items ≡ table_text comma (answer_rows answer ++ (range_rows answer ranges ++ unit_rows answer units))
  pub kind_is : text.kind ≡ answer_kind answer

-- the text is an answer to two texts, with the ranges of routes if they are asked
abbrev pub IsFlowText : Bool → FlowBytes → Options → PlanText → Type 0
IsFlowText true texts options text = IsRangedText texts options text
IsFlowText false texts options text = IsPlanText texts options text
