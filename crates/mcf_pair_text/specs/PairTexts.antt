-- The answer to a table of persons and things as the text of a table. Each of its rows begins with
-- a word that says what it is.
-- Source: own
use Rattle.std.specs.Prelude.{◌≡◌, ℕ, Bool, List, [], ◌∷◌, ◌++◌, codes, map, Option, None, Result, Ok, Err}
use Rattle.mcf_answer_rows.specs.AnswerRows.{answer_row}
use Rattle.mcf_answer_rows.specs.Lines.{comma}
use Rattle.mcf_answer_rows.specs.TableRows.{mark_row, repeated_rows}
use Rattle.mcf_answer_rows.specs.declared.texts.PlanText.{PlanText}
use Rattle.mcf_answer_rows.specs.declared.texts.TextKind.{TextKind}
use Rattle.mcf_answer_rows.specs.declared.texts.TextKind.TheVariants as told
use Rattle.mcf_decimal.specs.declared.mark.Mark.{Mark}
use Rattle.mcf_answer_rows.specs.FormRows.{lacking_row}
use Rattle.mcf_pair_tables.specs.PairAnswers.{CostBytes, IsPairAnswer}
use Rattle.mcf_pair_tables.specs.declared.answering.ChoiceAnswer.{ChoiceAnswer}
use Rattle.mcf_pair_tables.specs.declared.answering.ChoiceAnswer.TheVariants.{Improper, Solved, TooGreat}
use Rattle.mcf_pair_tables.specs.declared.answering.SolvedPairs.{SolvedPairs}
use Rattle.mcf_pair_tables.specs.declared.answering.TableAnswer.{TableAnswer}
use Rattle.mcf_pair_tables.specs.declared.answering.TableAnswer.TheVariants.{Choice, Faults}
use Rattle.mcf_pair_tables.specs.declared.options.Options.{Options}
use Rattle.mcf_pair_tables.specs.declared.pair_answer.PairAnswer.{PairAnswer}
use Rattle.mcf_pair_tables.specs.declared.pair_answer.PairAnswer.TheVariants.{NoColumns, NoTable, Table}
use Rattle.mcf_roster.specs.declared.answering.RosterAnswer.{RosterAnswer}
use Rattle.mcf_roster.specs.declared.answering.RosterAnswer.TheVariants.{Beyond, Least, NoChoice}
use Rattle.mcf_roster_reading.specs.Reading.{Entries, read_roster}
use Rattle.mcf_roster_reading.specs.declared.kinds.Fault.{Fault}
use Rattle.mcf_table.specs.Texts.{Record}
use Rattle.mcf_table.specs.Written.{table_text}
use Rattle.mcf_pair_text.specs.DoneRows.{done_rows}
use Rattle.mcf_pair_text.specs.PairFaultRows.{beyond_row, cell_fault_row, costs_word, great_row, improper_row, text_row}
use Rattle.mcf_pair_text.specs.PairPlaces.{Sheet, sheet_of}
use Rattle.mcf_pair_text.specs.PairRows.{choice_rows, competition_rows}

-- the row that says that there are faults
abbrev pub faults_row : List (List ℕ)
faults_row = answer_row (codes "faults")

-- ---- the rows of an answer

-- the end of an answer: the mark before decimals, and the table
abbrev pub closing_rows : Sheet → Option Mark → List (List (List ℕ))
closing_rows s mark = mark_row mark ∷ repeated_rows costs_word s.rows

-- a least choice, or persons and things that compete, or the first number beyond the limits
abbrev pub roster_rows : Bool → Sheet → Entries → SolvedPairs → RosterAnswer → List (List (List ℕ))
roster_rows maximise s said solved (Least choice) = choice_rows maximise s said solved.scale choice
roster_rows maximise s said solved (NoChoice competition) = competition_rows s said competition
roster_rows maximise s said solved (Beyond fault) = faults_row ∷ beyond_row s said solved.origin fault ∷ []

-- the answer to what a table says
abbrev pub said_rows : Bool → Sheet → Entries → ChoiceAnswer → List (List (List ℕ))
said_rows maximise s said (TooGreat cells) = faults_row ∷ map (great_row s) cells.items
said_rows maximise s said (Improper fault) = faults_row ∷ improper_row s said fault ∷ []
said_rows maximise s said (Solved solved) = roster_rows maximise s said solved solved.answer

-- the answer to what a table says, as it was read, and the table; one with faults has another
-- answer
abbrev pub read_rows : Bool → Sheet → Result Entries (List Fault) → ChoiceAnswer → List (List (List ℕ))
read_rows maximise s (Ok said) answer = said_rows maximise s said answer ++ closing_rows s said.mark
read_rows maximise s (Err faults) answer = []

-- the answer to the rows of a table
abbrev pub table_rows : Options → List Record → TableAnswer → List (List (List ℕ))
table_rows options records (Faults faults) = (faults_row ∷ map (cell_fault_row (sheet_of records)) faults) ++ closing_rows (sheet_of records) None
table_rows options records (Choice answer) = read_rows options.maximise (sheet_of records) (read_roster options.mark records) answer

-- the answer to a text, and what was done to the table
abbrev pub answer_rows : Options → PairAnswer → List (List (List ℕ))
answer_rows options (NoTable fault) = faults_row ∷ text_row fault ∷ []
answer_rows options (NoColumns numbers) = faults_row ∷ map lacking_row numbers.items
answer_rows options (Table said) = table_rows options said.rows said.answer ++ done_rows said.rows said.done

-- ---- its kind

-- that of a least choice, of a competition, or of a number beyond the limits
abbrev pub roster_kind : RosterAnswer → TextKind
roster_kind (Least choice) = told.Plan
roster_kind (NoChoice competition) = told.NoPlan
roster_kind (Beyond fault) = told.Faults

-- that of the answer to what a table says
abbrev pub choice_kind : ChoiceAnswer → TextKind
choice_kind (TooGreat cells) = told.Faults
choice_kind (Improper fault) = told.Faults
choice_kind (Solved solved) = roster_kind solved.answer

-- that of the answer to the rows of a table
abbrev pub table_kind : TableAnswer → TextKind
table_kind (Faults faults) = told.Faults
table_kind (Choice answer) = choice_kind answer

-- whether the answer is a plan, that there is none, or faults
abbrev pub answer_kind : PairAnswer → TextKind
answer_kind (NoTable fault) = told.Faults
answer_kind (NoColumns numbers) = told.Faults
answer_kind (Table said) = table_kind said.answer

-- ---- the text

-- the text says an answer to a text: its rows, each cell between quotes, with commas between them
pub record IsPairText (texts : CostBytes) (options : Options) (made : PlanText) : Type 0 where
  pub answer : PairAnswer
  pub answers : IsPairAnswer texts options answer
  pub text_is : made.text.items ≡ table_text comma (answer_rows options answer)
  pub kind_is : made.kind ≡ answer_kind answer
