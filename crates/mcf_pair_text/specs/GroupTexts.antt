-- The answer to a table of persons and things and a table of groups as the text of a table.
-- Source: own
use Rattle.std.specs.Prelude.{◌≡◌, ℕ, Bool, List, [], ◌∷◌, ◌++◌, codes, map, Option, Some, None, Result, Ok, Err}
use Rattle.mcf_answer_rows.specs.Lines.{comma}
use Rattle.mcf_answer_rows.specs.TableRows.{mark_row, repeated_rows}
use Rattle.mcf_answer_rows.specs.declared.texts.PlanText.{PlanText}
use Rattle.mcf_answer_rows.specs.declared.texts.TextKind.{TextKind}
use Rattle.mcf_answer_rows.specs.declared.texts.TextKind.TheVariants as told
use Rattle.mcf_decimal.specs.declared.mark.Mark.{Mark}
use Rattle.mcf_group_reading.specs.GroupReading.{Entries as Groups, read_groups}
use Rattle.mcf_group_reading.specs.declared.kinds.Fault.{Fault as GroupFault}
use Rattle.mcf_groups.specs.declared.ordering.Crossing.{Crossing}
use Rattle.mcf_answer_rows.specs.FormRows.{filled_row, lacking_row}
use Rattle.mcf_pair_tables.specs.GroupAnswers.{GroupBytes, IsGroupsText}
use Rattle.mcf_pair_tables.specs.GroupedAnswers.{known_in}
use Rattle.mcf_pair_tables.specs.declared.group_answer.BrokenTexts.{BrokenTexts}
use Rattle.mcf_pair_tables.specs.declared.group_answer.GroupsAnswer.{GroupsAnswer}
use Rattle.mcf_pair_tables.specs.declared.group_answer.GroupsAnswer.TheVariants.{NoColumns, NoTables, Tables}
use Rattle.mcf_pair_tables.specs.declared.group_answer.SaidGroups.{SaidGroups}
use Rattle.mcf_pair_tables.specs.declared.grouped.Asked.{Asked}
use Rattle.mcf_pair_tables.specs.declared.grouped.ChosenGroups.{ChosenGroups}
use Rattle.mcf_pair_tables.specs.declared.grouped.CompetingGroups.{CompetingGroups}
use Rattle.mcf_pair_tables.specs.declared.grouped.GroupTableAnswer.{GroupTableAnswer}
use Rattle.mcf_pair_tables.specs.declared.grouped.GroupTableAnswer.TheVariants.{Choice, Faults, GroupFaults}
use Rattle.mcf_pair_tables.specs.declared.grouped.GroupedChoice.{GroupedChoice}
use Rattle.mcf_pair_tables.specs.declared.grouped.GroupedChoice.TheVariants.{Grouped, Improper, TooGreat}
use Rattle.mcf_pair_tables.specs.declared.grouped.SetsAnswer.{SetsAnswer}
use Rattle.mcf_pair_tables.specs.declared.grouped.SetsAnswer.TheVariants as sets
use Rattle.mcf_pair_tables.specs.declared.grouped.SolvedGroups.{SolvedGroups}
use Rattle.mcf_pair_tables.specs.declared.grouped.SolvedGroups.TheVariants.{Beyond, Least, NoChoice}
use Rattle.mcf_pair_tables.specs.declared.options.Options.{Options}
use Rattle.mcf_roster_reading.specs.Reading.{Entries, read_roster}
use Rattle.mcf_roster_reading.specs.declared.kinds.Fault.{Fault}
use Rattle.mcf_table.specs.Texts.{Record}
use Rattle.mcf_table.specs.Written.{table_text}
use Rattle.mcf_pair_text.specs.DoneRows.{done_rows}
use Rattle.mcf_pair_text.specs.GroupFaultRows as faulty
use Rattle.mcf_pair_text.specs.GroupRows.{Book, bound_row, count_row, crossing_row}
use Rattle.mcf_pair_text.specs.PairFaultRows.{beyond_row, cell_fault_row, costs_word, great_row, improper_row}
use Rattle.mcf_pair_text.specs.PairPlaces.{Sheet, sheet_of}
use Rattle.mcf_pair_text.specs.PairRows.{choice_rows, competition_rows}
use Rattle.mcf_pair_text.specs.PairTexts.{faults_row}

-- ---- a choice

-- the groups that are left out, and those that have too few or too many members of them
abbrev pub crossings_told : Book → List Crossing → ChosenGroups → List (List (List ℕ))
crossings_told b crossings c = map (crossing_row b) crossings ++ map (count_row b (codes "broken")) c.broken.items

-- what a choice has of groups: of all that may have members of them, and then of the groups that
-- are left out
abbrev pub chosen_groups : Book → List Crossing → ChosenGroups → List (List (List ℕ))
chosen_groups b crossings c = map (count_row b (codes "group")) c.counts.items ++ crossings_told b crossings c

-- a least choice, and what it has of groups
abbrev pub group_choice_rows : Bool → Book → ℕ → List Crossing → ChosenGroups → List (List (List ℕ))
group_choice_rows maximise b scale crossings c = choice_rows maximise b.sheet b.said scale c.choice ++ chosen_groups b crossings c

-- ---- those that compete

-- what counts of groups, and the groups that are left out
abbrev pub competing_bounds : Book → List Crossing → CompetingGroups → List (List (List ℕ))
competing_bounds b crossings c = map (bound_row b) c.bounds.items ++ map (crossing_row b) crossings

-- persons and things that compete, and what counts of groups
abbrev pub competing_groups : Book → List Crossing → CompetingGroups → List (List (List ℕ))
competing_groups b crossings c = competition_rows b.sheet b.said c.found ++ competing_bounds b crossings c

-- ---- the answer for a roster

-- a least choice; or those that compete; or a number beyond the limits
abbrev pub solved_rows : Bool → Book → ℕ → List Crossing → SolvedGroups → List (List (List ℕ))
solved_rows maximise b scale crossings (Least c) = group_choice_rows maximise b scale crossings c
solved_rows maximise b scale crossings (NoChoice c) = competing_groups b crossings c
solved_rows maximise b scale crossings (Beyond n) = faults_row ∷ beyond_row b.sheet b.said (Some n.origin) n.fault ∷ []

-- groups that cross others, where that is refused: their faults, and the groups that they cross
abbrev pub refused_rows : Book → List Crossing → List (List (List ℕ))
refused_rows b crossings = map (faulty.crossing_fault_row b) crossings ++ map (crossing_row b) crossings

-- the answer to what groups say
abbrev pub sets_rows : Bool → Book → ℕ → List Crossing → SetsAnswer → List (List (List ℕ))
sets_rows maximise b scale crossings sets.Crossing = faults_row ∷ refused_rows b crossings
sets_rows maximise b scale crossings (sets.Improper fault) = faults_row ∷ faulty.improper_row b fault ∷ []
sets_rows maximise b scale crossings (sets.Solved solved) = solved_rows maximise b scale crossings solved

-- the answer to what two tables say
abbrev pub grouped_rows : Bool → Book → GroupedChoice → List (List (List ℕ))
grouped_rows maximise b (TooGreat cells) = faults_row ∷ map (great_row b.sheet) cells.items
grouped_rows maximise b (Improper fault) = faults_row ∷ improper_row b.sheet b.said fault ∷ []
grouped_rows maximise b (Grouped made) = sets_rows maximise b made.scale made.crossings.items made.answer

-- ---- the tables

-- the rows of both tables
abbrev pub both_tables : List Record → List Record → List (List (List ℕ))
both_tables costs groups = repeated_rows costs_word costs ++ repeated_rows faulty.groups_word groups

-- the end of an answer: the mark before decimals, and the tables
abbrev pub closing_rows : List Record → List Record → Option Mark → List (List (List ℕ))
closing_rows costs groups mark = mark_row mark ∷ both_tables costs groups

-- the answer to what two tables say, and the tables
abbrev pub book_rows : Bool → Book → GroupedChoice → List (List (List ℕ))
book_rows maximise b answer = grouped_rows maximise b answer ++ closing_rows b.sheet.rows b.rows b.said.mark

-- the same for a table of groups as it was read; one with faults has another answer
abbrev pub read_both : Bool → Sheet → Entries → List Record → Result Groups (List GroupFault) → GroupedChoice → List (List (List ℕ))
read_both maximise s said rows (Ok groups) answer = book_rows maximise (record { sheet = s; said = said; rows = rows; groups = groups }) answer
read_both maximise s said rows (Err faults) answer = []

-- the same for a table of persons and things as it was read
abbrev pub read_costs : Bool → Sheet → Result Entries (List Fault) → List Record → GroupedChoice → List (List (List ℕ))
read_costs maximise s (Ok said) rows answer = read_both maximise s said rows (read_groups (known_in said) rows) answer
read_costs maximise s (Err faults) rows answer = []

-- the answer to the rows of two tables
abbrev pub table_rows : Options → List Record → List Record → GroupTableAnswer → List (List (List ℕ))
table_rows options costs rows (Faults faults) =
    (faults_row ∷ map (cell_fault_row (sheet_of costs)) faults) ++ closing_rows costs rows None
table_rows options costs rows (GroupFaults faults) = (faults_row ∷ map (faulty.group_row rows) faults) ++ closing_rows costs rows None
table_rows options costs rows (Choice answer) =
    read_costs options.maximise (sheet_of costs) (read_roster options.mark costs) rows answer

-- why texts are no tables
abbrev pub both_broken : BrokenTexts → List (List (List ℕ))
both_broken broken = faulty.broken_rows costs_word broken.costs ++ faulty.broken_rows faulty.groups_word broken.groups

-- what was done to two tables: to that of persons and things, and the columns of the other that
-- were filled down
abbrev pub both_done : SaidGroups → List (List (List ℕ))
both_done said = done_rows said.costs said.done ++ map (filled_row faulty.groups_word said.groups) said.filled.items

-- the answer to two texts, and what was done to the tables
abbrev pub answer_rows : Options → GroupsAnswer → List (List (List ℕ))
answer_rows options (NoTables broken) = faults_row ∷ both_broken broken
answer_rows options (NoColumns numbers) = faults_row ∷ map lacking_row numbers.items
answer_rows options (Tables said) = table_rows options said.costs said.groups said.answer ++ both_done said

-- ---- its kind

-- that of a least choice, of those that compete, or of a number beyond the limits
abbrev pub solved_kind : SolvedGroups → TextKind
solved_kind (Least c) = told.Plan
solved_kind (NoChoice c) = told.NoPlan
solved_kind (Beyond n) = told.Faults

-- that of the answer to what groups say
abbrev pub sets_kind : SetsAnswer → TextKind
sets_kind sets.Crossing = told.Faults
sets_kind (sets.Improper fault) = told.Faults
sets_kind (sets.Solved solved) = solved_kind solved

-- that of the answer to what two tables say
abbrev pub grouped_kind : GroupedChoice → TextKind
grouped_kind (TooGreat cells) = told.Faults
grouped_kind (Improper fault) = told.Faults
grouped_kind (Grouped made) = sets_kind made.answer

-- that of the answer to the rows of two tables
abbrev pub table_kind : GroupTableAnswer → TextKind
table_kind (Faults faults) = told.Faults
table_kind (GroupFaults faults) = told.Faults
table_kind (Choice answer) = grouped_kind answer

-- whether the answer is a plan, that there is none, or faults
abbrev pub answer_kind : GroupsAnswer → TextKind
answer_kind (NoTables broken) = told.Faults
answer_kind (NoColumns numbers) = told.Faults
answer_kind (Tables said) = table_kind said.answer

-- ---- the text

-- the text says an answer to two texts: its rows, each cell between quotes, with commas between
-- them
pub record IsGroupText (texts : GroupBytes) (asked : Asked) (made : PlanText) : Type 0 where
  pub answer : GroupsAnswer
  pub answers : IsGroupsText texts asked answer
  pub text_is : made.text.items ≡ table_text comma (answer_rows asked.options answer)
  pub kind_is : made.kind ≡ answer_kind answer
