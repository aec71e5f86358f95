-- The answer to two tables as the text of a table. Each of its rows begins with a word that says
-- what it is.
-- Source: own
use Rattle.std.specs.Prelude.{◌≡◌, ℕ, List, [], ◌∷◌, ◌++◌, codes, map, Option, None}
use Rattle.mcf_answer_rows.specs.Lines.{comma}
use Rattle.mcf_answer_rows.specs.TableRows.{mark_row, repeated_rows}
use Rattle.mcf_answer_rows.specs.declared.texts.PlanText.{PlanText}
use Rattle.mcf_answer_rows.specs.declared.texts.TextKind.{TextKind}
use Rattle.mcf_answer_rows.specs.declared.texts.TextKind.TheVariants as told
use Rattle.mcf_decimal.specs.declared.mark.Mark.{Mark}
use Rattle.mcf_flow_tables.specs.TableAnswers.{FlowBytes, IsFlowAnswer}
use Rattle.mcf_flow_tables.specs.declared.answering.ProblemAnswer.{ProblemAnswer}
use Rattle.mcf_flow_tables.specs.declared.answering.ProblemAnswer.TheVariants.{TooGreat, Improper, Solved}
use Rattle.mcf_flow_tables.specs.declared.answering.SolvedProblem.{SolvedProblem}
use Rattle.mcf_flow_tables.specs.declared.answering.TableAnswer.{TableAnswer}
use Rattle.mcf_flow_tables.specs.declared.answering.TableAnswer.TheVariants.{Faults, Periods, Problem}
use Rattle.mcf_flow_tables.specs.declared.flow_answer.FlowAnswer.{FlowAnswer}
use Rattle.mcf_flow_tables.specs.declared.flow_answer.FlowAnswer.TheVariants.{NoColumns, NoTables, Tables}
use Rattle.mcf_flow_tables.specs.declared.flow_answer.SaidTables.{SaidTables}
use Rattle.mcf_flow_tables.specs.declared.options.Options.{Options}
use Rattle.mcf_flow_tables.specs.declared.period_answer.PeriodAnswer.{PeriodAnswer}
use Rattle.mcf_flow_tables.specs.declared.period_answer.PeriodAnswer.TheVariants as period
use Rattle.mcf_flow_tables.specs.declared.prepared.Done.{Done}
use Rattle.mcf_flow_tables.specs.declared.prepared.Filled.{Filled}
use Rattle.mcf_answer_rows.specs.FormRows.{filled_row, lacking_row, left_out_rows, list_rows}
use Rattle.mcf_period_text.specs.PeriodAnswerRows.{period_answer_rows, period_mark}
use Rattle.mcf_places.specs.declared.answering.PlannerAnswer.{PlannerAnswer}
use Rattle.mcf_places.specs.declared.answering.PlannerAnswer.TheVariants.{Beyond, Least, NoPlan}
use Rattle.mcf_reading.specs.declared.locations.Table.TheVariants.{Places, Routes}
use Rattle.mcf_table.specs.Written.{table_text}
use Rattle.mcf_plan_rows.specs.BottleneckRows.{bottleneck_rows}
use Rattle.mcf_plan_rows.specs.FaultRows.{TwoTables, beyond_row, cell_fault_row, faults_row, great_row, planner_row, table_word, text_rows}
use Rattle.mcf_plan_rows.specs.PlanRows.{plan_rows}

-- ---- the rows of an answer

-- the end of an answer: the mark before decimals, and both tables
abbrev pub closing_rows : TwoTables → Option Mark → List (List (List ℕ))
closing_rows two mark = mark_row mark ∷ (repeated_rows (table_word Places) two.places ++ repeated_rows (table_word Routes) two.routes)

-- What was done to the tables: how many routes the matrix has that became a list, and the rows of
-- totals that were left out.
abbrev pub done_rows : Done → List (List (List ℕ))
done_rows done =
    list_rows (table_word Routes) done.list
    ++ (left_out_rows (table_word Places) done.place_total ++ left_out_rows (table_word Routes) done.route_total)

-- the columns of two tables that were filled down
abbrev pub filled_rows : TwoTables → Filled → List (List (List ℕ))
filled_rows two filled =
    map (filled_row (table_word Places) two.places) filled.places.items ++ map (filled_row (table_word Routes) two.routes) filled.routes.items

-- a least plan, or a bottleneck, or the first number beyond the limits
abbrev pub solved_rows : TwoTables → SolvedProblem → PlannerAnswer → List (List (List ℕ))
solved_rows two s (Least plan) = plan_rows two s.planner s.scales plan
solved_rows two s (NoPlan bottleneck) = bottleneck_rows two s.planner s.scales bottleneck
solved_rows two s (Beyond fault) = faults_row ∷ beyond_row two s.origin fault ∷ []

-- the answer to what tables say
abbrev pub problem_rows : TwoTables → ProblemAnswer → List (List (List ℕ))
problem_rows two (TooGreat faults) = faults_row ∷ map (great_row two) faults.items
problem_rows two (Improper faults) = faults_row ∷ map (planner_row two) faults.items
problem_rows two (Solved s) = solved_rows two s s.answer

-- the answer to the rows of two tables
abbrev pub table_rows : TwoTables → TableAnswer → List (List (List ℕ))
table_rows two (Faults faults) = faults_row ∷ map (cell_fault_row two) faults
table_rows two (Problem answer) = problem_rows two answer
table_rows two (Periods answer) = period_answer_rows two answer

-- the mark that was settled, if the tables say a problem
abbrev pub problem_mark : ProblemAnswer → Option Mark
problem_mark (TooGreat faults) = None
problem_mark (Improper faults) = None
problem_mark (Solved s) = s.mark

-- the mark that was settled, if the rows say a problem
abbrev pub table_mark : TableAnswer → Option Mark
table_mark (Faults faults) = None
table_mark (Problem answer) = problem_mark answer
table_mark (Periods answer) = period_mark answer

-- the rows of two tables
abbrev pub said_tables : SaidTables → TwoTables
said_tables said = record { places = said.places; routes = said.routes }

-- the end of the answer to the rows of two tables: the columns that were filled down, the mark
-- before decimals, and both tables
abbrev pub end_rows : SaidTables → List (List (List ℕ))
end_rows said = filled_rows (said_tables said) said.filled ++ closing_rows (said_tables said) (table_mark said.answer)

-- the answer to two texts; if both are tables, it ends with what was done to them, and with their
-- rows as they were read
abbrev pub answer_rows : FlowAnswer → List (List (List ℕ))
answer_rows (NoTables broken) = faults_row ∷ (text_rows Places broken.places ++ text_rows Routes broken.routes)
answer_rows (NoColumns numbers) = faults_row ∷ map lacking_row numbers.items
answer_rows (Tables said) = table_rows (said_tables said) said.answer ++ (done_rows said.done ++ end_rows said)

-- ---- its kind

-- that of a least plan, of a bottleneck, or of a number beyond the limits
abbrev pub solved_kind : PlannerAnswer → TextKind
solved_kind (Least plan) = told.Plan
solved_kind (NoPlan bottleneck) = told.NoPlan
solved_kind (Beyond fault) = told.Faults

-- that of the answer to what tables say
abbrev pub problem_kind : ProblemAnswer → TextKind
problem_kind (TooGreat faults) = told.Faults
problem_kind (Improper faults) = told.Faults
problem_kind (Solved s) = solved_kind s.answer

-- that of the answer to tables over periods
abbrev pub period_kind : PeriodAnswer → TextKind
period_kind (period.Faults faults) = told.Faults
period_kind (period.TooGreat faults) = told.Faults
period_kind (period.Improper improper) = told.Faults
period_kind (period.Solved s) = solved_kind s.answer

-- that of the answer to the rows of two tables
abbrev pub table_kind : TableAnswer → TextKind
table_kind (Faults faults) = told.Faults
table_kind (Problem answer) = problem_kind answer
table_kind (Periods answer) = period_kind answer

-- whether the answer is a plan, that there is none, or faults
abbrev pub answer_kind : FlowAnswer → TextKind
answer_kind (NoTables broken) = told.Faults
answer_kind (NoColumns numbers) = told.Faults
answer_kind (Tables said) = table_kind said.answer

-- ---- the text

-- the text says an answer to two texts: its rows, each cell between quotes, with commas between
-- them
pub record IsPlanText (texts : FlowBytes) (options : Options) (text : PlanText) : Type 0 where
  pub answer : FlowAnswer
  pub answers : IsFlowAnswer texts options answer
  pub text_is : text.text.items ≡ table_text comma (answer_rows answer)
  pub kind_is : text.kind ≡ answer_kind answer
