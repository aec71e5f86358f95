-- For how many units the prices of a least plan hold, as rows of a table.
-- Source: own
use Rattle.std.specs.Prelude.{List, [], ◌++◌, ℕ}
use Rattle.mcf_flow_tables.specs.declared.answering.ProblemAnswer.{ProblemAnswer}
use Rattle.mcf_flow_tables.specs.declared.answering.ProblemAnswer.TheVariants.{TooGreat, Improper, Solved}
use Rattle.mcf_flow_tables.specs.declared.answering.TableAnswer.{TableAnswer}
use Rattle.mcf_flow_tables.specs.declared.answering.TableAnswer.TheVariants.{Faults, Periods, Problem}
use Rattle.mcf_flow_tables.specs.declared.flow_answer.FlowAnswer.{FlowAnswer}
use Rattle.mcf_flow_tables.specs.declared.flow_answer.FlowAnswer.TheVariants.{NoColumns, NoTables, Tables}
use Rattle.mcf_flow_tables.specs.declared.period_answer.PeriodAnswer.{PeriodAnswer}
use Rattle.mcf_flow_tables.specs.declared.period_answer.PeriodAnswer.TheVariants as period
use Rattle.mcf_places.specs.declared.answering.PlannerAnswer.{PlannerAnswer}
use Rattle.mcf_places.specs.declared.answering.PlannerAnswer.TheVariants.{Beyond, Least, NoPlan}
use Rattle.mcf_places.specs.declared.answering.LeastPlannerPlan.{LeastPlannerPlan}
use Rattle.mcf_places.specs.Planners.{Planner}
use Rattle.mcf_plan_rows.specs.FaultRows.{TwoTables}
use Rattle.mcf_plan_text.specs.PlanTexts.{said_tables}
use Rattle.mcf_range_text.specs.PassRangeTexts.{ArePassRanges, pass_range_rows}
use Rattle.mcf_range_text.specs.PeriodUnitTexts.{period_unit_rows}
use Rattle.mcf_range_text.specs.RoomRangeTexts.{AreRoomRanges, room_range_rows}
use Rattle.mcf_range_text.specs.SupplyRangeTexts.{AreSupplyRanges, supply_range_rows}
use Rattle.mcf_range_text.specs.declared.units.UnitRanges.{UnitRanges}
use Rattle.mcf_units.specs.declared.scales.Scales.{Scales}

-- ---- what is told

-- what is told of a least plan: of the room on the routes of all rows, of what passes through all
-- places, and of their supplies and demands
pub record AreLeastUnits (P : Planner) (p : LeastPlannerPlan) (ranges : UnitRanges) : Type 0 where
  pub rooms : AreRoomRanges P p ranges.rooms.items
  pub passes : ArePassRanges P p ranges.passes.items
  pub supplies : AreSupplyRanges P p ranges.supplies.items

-- what is told of an answer, if it is a least plan
abbrev pub AreSolvedUnits : Planner → PlannerAnswer → UnitRanges → Type 0
AreSolvedUnits P (Least p) ranges = AreLeastUnits P p ranges
AreSolvedUnits P (NoPlan bottleneck) ranges = Unit {0}
AreSolvedUnits P (Beyond fault) ranges = Unit {0}

-- of the answer to what tables say
abbrev pub AreProblemUnits : ProblemAnswer → UnitRanges → Type 0
AreProblemUnits (TooGreat faults) ranges = Unit {0}
AreProblemUnits (Improper faults) ranges = Unit {0}
AreProblemUnits (Solved s) ranges = AreSolvedUnits s.planner s.answer ranges

-- of the answer to two tables over periods: what is told of the problem without periods
abbrev pub ArePeriodUnits : PeriodAnswer → UnitRanges → Type 0
ArePeriodUnits (period.Faults faults) ranges = Unit {0}
ArePeriodUnits (period.TooGreat faults) ranges = Unit {0}
ArePeriodUnits (period.Improper improper) ranges = Unit {0}
ArePeriodUnits (period.Solved s) ranges = AreSolvedUnits s.planner s.answer ranges

-- of the answer to the rows of two tables
abbrev pub AreTableUnits : TableAnswer → UnitRanges → Type 0
AreTableUnits (Faults faults) ranges = Unit {0}
AreTableUnits (Problem answer) ranges = AreProblemUnits answer ranges
AreTableUnits (Periods answer) ranges = ArePeriodUnits answer ranges

-- of the answer to two texts
abbrev pub AreUnits : FlowAnswer → UnitRanges → Type 0
AreUnits (NoTables broken) ranges = Unit {0}
AreUnits (NoColumns numbers) ranges = Unit {0}
AreUnits (Tables said) ranges = AreTableUnits said.answer ranges

-- ---- their rows

-- those of a least plan: the rooms of all rows, what passes through all places, and then their
-- supplies and demands
abbrev pub least_unit_rows : TwoTables → Scales → UnitRanges → List (List (List ℕ))
least_unit_rows two scales ranges =
    (room_range_rows scales two.routes ranges.rooms.items ++ pass_range_rows scales two.places ranges.passes.items)
    ++ supply_range_rows scales two.places ranges.supplies.items

-- those of an answer, if it is a least plan
abbrev pub solved_unit_rows : TwoTables → Scales → PlannerAnswer → UnitRanges → List (List (List ℕ))
solved_unit_rows two scales (Least p) ranges = least_unit_rows two scales ranges
solved_unit_rows two scales (NoPlan bottleneck) ranges = []
solved_unit_rows two scales (Beyond fault) ranges = []

-- of the answer to what tables say
abbrev pub problem_unit_rows : TwoTables → ProblemAnswer → UnitRanges → List (List (List ℕ))
problem_unit_rows two (TooGreat faults) ranges = []
problem_unit_rows two (Improper faults) ranges = []
problem_unit_rows two (Solved s) ranges = solved_unit_rows two s.scales s.answer ranges

-- of the answer to the rows of two tables
abbrev pub table_unit_rows : TwoTables → TableAnswer → UnitRanges → List (List (List ℕ))
table_unit_rows two (Faults faults) ranges = []
table_unit_rows two (Problem answer) ranges = problem_unit_rows two answer ranges
table_unit_rows two (Periods answer) ranges = period_unit_rows two answer ranges

-- of the answer to two texts
abbrev pub unit_rows : FlowAnswer → UnitRanges → List (List (List ℕ))
unit_rows (NoTables broken) ranges = []
unit_rows (NoColumns numbers) ranges = []
unit_rows (Tables said) ranges = table_unit_rows (said_tables said) said.answer ranges
