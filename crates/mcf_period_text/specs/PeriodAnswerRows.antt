-- The answer to two tables over periods as rows of a table.
-- Source: own
use Rattle.std.specs.Prelude.{ℕ, List, [], ◌∷◌, ◌++◌, codes, map, Option, Some, None}
use Rattle.mcf_answer_rows.specs.AnswerRows.{cell_under, line_at}
use Rattle.mcf_answer_rows.specs.FaultWords.{fault_row, too_great}
use Rattle.mcf_answer_rows.specs.declared.texts.TextKind.{TextKind}
use Rattle.mcf_answer_rows.specs.declared.texts.TextKind.TheVariants as told
use Rattle.mcf_decimal.specs.declared.mark.Mark.{Mark}
use Rattle.mcf_flow_tables.specs.declared.period_answer.PeriodAnswer.{PeriodAnswer}
use Rattle.mcf_flow_tables.specs.declared.period_answer.PeriodAnswer.TheVariants.{Faults, TooGreat, Improper, Solved}
use Rattle.mcf_flow_tables.specs.declared.period_answer.PeriodTableFaults.{PeriodTableFaults}
use Rattle.mcf_flow_tables.specs.declared.period_answer.SolvedPeriods.{SolvedPeriods}
use Rattle.mcf_period_reading.specs.PlaceTimes.{periods_in}
use Rattle.mcf_period_units.specs.declared.origins.PeriodOrigins.{PeriodOrigins}
use Rattle.mcf_places.specs.declared.answering.PlannerAnswer.{PlannerAnswer}
use Rattle.mcf_places.specs.declared.answering.PlannerAnswer.TheVariants.{Beyond, Least, NoPlan}
use Rattle.mcf_plan_rows.specs.FaultRows.{TwoTables, cell_fault_row, faults_row}
use Rattle.mcf_reading.specs.declared.kinds.Fault.{Fault}
use Rattle.mcf_period_text.specs.PeriodBottleneckRows.{period_bottleneck_rows}
use Rattle.mcf_period_text.specs.PeriodFaultRows.{period_beyond_row, period_fault_row, period_great_row, period_planner_row}
use Rattle.mcf_period_text.specs.PeriodPlanRows.{period_plan_rows}
use Rattle.mcf_period_text.specs.TimedTables.{TimedTables}

-- the tables with their periods, and the rows that places, stores and departures come from
abbrev pub timed_of : TwoTables → PeriodOrigins → TimedTables
timed_of two origins = record { two = two; periods = periods_in two.places; origins = origins }

-- a least plan, or a bottleneck, or the first number beyond the limits
abbrev pub period_solved_rows : TwoTables → SolvedPeriods → PlannerAnswer → List (List (List ℕ))
period_solved_rows two s (Least plan) = period_plan_rows (timed_of two s.origins) s.planner s.scales plan
period_solved_rows two s (NoPlan bottleneck) = period_bottleneck_rows (timed_of two s.origins) s.planner s.scales bottleneck
period_solved_rows two s (Beyond fault) = faults_row ∷ period_beyond_row (timed_of two s.origins) s.origin fault ∷ []

-- the rows of the faults of cells, if there are some
abbrev pub some_fault_rows : TwoTables → Option (List Fault) → List (List (List ℕ))
some_fault_rows two (Some faults) = map (cell_fault_row two) faults
some_fault_rows two None = []

-- the answer to the rows of two tables over periods
abbrev pub period_answer_rows : TwoTables → PeriodAnswer → List (List (List ℕ))
period_answer_rows two (Faults f) = faults_row ∷ (some_fault_rows two f.cells ++ map (period_fault_row two) f.periods.items)
period_answer_rows two (TooGreat faults) = faults_row ∷ map (period_great_row two) faults.items
period_answer_rows two (Improper i) = faults_row ∷ map (period_planner_row (timed_of two i.origins)) i.faults.items
period_answer_rows two (Solved s) = period_solved_rows two s s.answer

-- the mark that was settled, if the rows say a problem
abbrev pub period_mark : PeriodAnswer → Option Mark
period_mark (Faults f) = None
period_mark (TooGreat faults) = None
period_mark (Improper i) = None
period_mark (Solved s) = s.mark
