-- The answer to a table of persons and things. No network is named here.
-- Source: own
use Rattle.std.specs.Prelude.{◌≡◌, ℕ, List, [], ◌∷◌, codes, Option, Some, None, Ok, Err}
use Rattle.mcf_flow_tables.specs.Lacking.{lacking}
use Rattle.mcf_flow_tables.specs.TableTexts.{IsBrokenText, IsTableOf}
use Rattle.mcf_roster.specs.Origins.{origin_of}
use Rattle.mcf_roster.specs.RosterAnswers.{IsRosterAnswer}
use Rattle.mcf_roster.specs.RosterFaults.{IsSoundRoster}
use Rattle.mcf_roster.specs.Rosters.{Roster}
use Rattle.mcf_roster.specs.declared.answering.RosterAnswer.{RosterAnswer}
use Rattle.mcf_roster.specs.declared.answering.RosterAnswer.TheVariants.{Beyond, Least, NoChoice}
use Rattle.mcf_roster.specs.declared.origins.Origin.{Origin}
use Rattle.mcf_roster_reading.specs.Reading.{Entries, read_roster}
use Rattle.mcf_table.specs.Texts.{Record}
use Rattle.mcf_text.specs.Lines.{lines_of, numbered_lines}
use Rattle.mcf_table.specs.declared.heads.CellPlace.{CellPlace}
use Rattle.mcf_pair_tables.specs.PairCosts.{great_cells, scale_of_pairs}
use Rattle.mcf_pair_tables.specs.PairForms.{IsDoneTo, prepared_costs}
use Rattle.mcf_pair_tables.specs.PairRosters.{made_in}
use Rattle.mcf_pair_tables.specs.declared.answering.ChoiceAnswer.{ChoiceAnswer}
use Rattle.mcf_pair_tables.specs.declared.answering.ChoiceAnswer.TheVariants.{Improper, Solved, TooGreat}
use Rattle.mcf_pair_tables.specs.declared.answering.TableAnswer.{TableAnswer}
use Rattle.mcf_pair_tables.specs.declared.answering.TableAnswer.TheVariants.{Choice, Faults}
use Rattle.mcf_pair_tables.specs.declared.options.CostTexts.{CostTexts}
use Rattle.mcf_pair_tables.specs.declared.options.Options.{Options}
use Rattle.mcf_pair_tables.specs.declared.pair_answer.PairAnswer.{PairAnswer}
use Rattle.mcf_pair_tables.specs.declared.pair_answer.PairAnswer.TheVariants.{NoColumns, NoTable, Table}
use Rattle.mcf_pair_tables.specs.declared.pair_answer.SaidTable.{SaidTable}

-- where a number beyond the limits comes from, if that is the answer
abbrev pub origin_in : Roster → RosterAnswer → Option Origin
origin_in R (Beyond fault) = Some (origin_of R fault)
origin_in R (Least choice) = None
origin_in R (NoChoice competition) = None

-- the cells of the costs that are too great in the unit of the table
abbrev pub great_in : Entries → Options → List CellPlace
great_in said options = great_cells options.maximise (scale_of_pairs said.pairs) said.pairs

-- The answer to what a table says: the cells of all costs that are too great; or, if there are
-- none, the first fault of its roster; or, if that has none, a choice of the least cost, in the
-- unit of the table, or persons and things that compete, or the first number beyond the limits and
-- where it comes from. For values, costs have their signs turned.
abbrev pub IsChoiceAnswer : Entries → Options → ChoiceAnswer → Type 0
IsChoiceAnswer said options (TooGreat cells) = (cells.items ≡ great_in said options) × ¬ (cells.items ≡ [])
IsChoiceAnswer said options (Improper fault) =
    (great_in said options ≡ []) × (made_in (scale_of_pairs said.pairs) said options ≡ Err fault)
IsChoiceAnswer said options (Solved s) =
    (R : Roster) × (s.scale ≡ scale_of_pairs said.pairs) × (great_in said options ≡ []) × (made_in s.scale said options ≡ Ok R)
    × IsSoundRoster R × IsRosterAnswer R s.answer × (s.origin ≡ origin_in R s.answer)

-- The answer to the rows of a table: all faults of heads and cells; or, if there are none, the
-- answer to what they say.
abbrev pub IsTableAnswer : List Record → Options → TableAnswer → Type 0
IsTableAnswer records options (Faults faults) = read_roster options.mark records ≡ Err faults
IsTableAnswer records options (Choice answer) =
    (said : Entries) × (read_roster options.mark records ≡ Ok said) × IsChoiceAnswer said options answer

-- the heads of a list
abbrev pub pair_wanted : List (List ℕ)
pair_wanted = codes "who" ∷ codes "what" ∷ codes "cost" ∷ []

-- the bytes of a table, and of the heads of its columns that are filled down, one a line
pub record CostBytes : Type 0 where
  pub costs : List ℕ
  pub fill_down : List ℕ

-- those of texts
abbrev pub bytes_in : CostTexts → CostBytes
bytes_in texts = record { costs = texts.costs.now; fill_down = texts.fill_down.now }

-- the numbers of the heads of columns to fill down that a table lacks
abbrev pub unknown_heads : List ℕ → List Record → List ℕ
unknown_heads fill_down records =
    let rows = prepared_costs (lines_of fill_down) records in
    lacking rows rows (numbered_lines 1 fill_down)

-- the rows of a table as they are read, what was done to them, and the answer to them
pub record IsSaidOf (fill_down : List ℕ) (records : List Record) (options : Options) (said : SaidTable) : Type 0 where
  pub rows_are : said.rows ≡ prepared_costs (lines_of fill_down) records
  pub done_is : IsDoneTo (lines_of fill_down) records said.done
  pub answers : IsTableAnswer said.rows options said.answer

-- the answer to the rows of a table: the heads of columns to fill down that it lacks, if there are
-- some; or the rows as they are read, and the answer to these
abbrev pub IsRowsAnswer : List ℕ → List Record → Options → PairAnswer → Type 0
IsRowsAnswer fill_down records options (NoTable fault) = ⊥
IsRowsAnswer fill_down records options (NoColumns numbers) = (numbers.items ≡ unknown_heads fill_down records) × ¬ (numbers.items ≡ [])
IsRowsAnswer fill_down records options (Table said) = (unknown_heads fill_down records ≡ []) × IsSaidOf fill_down records options said

-- the text is a table, and this is the answer to its rows
pub record IsAnswerOf (texts : CostBytes) (options : Options) (answer : PairAnswer) : Type 0 where
  pub records : List Record
  pub is_table : IsTableOf pair_wanted texts.costs records
  pub answers : IsRowsAnswer texts.fill_down records options answer

-- the answer to a text: why it is no table; or the answer to its rows
abbrev pub IsPairAnswer : CostBytes → Options → PairAnswer → Type 0
IsPairAnswer texts options (NoTable fault) = IsBrokenText pair_wanted texts.costs fault
IsPairAnswer texts options (NoColumns numbers) = IsAnswerOf texts options (NoColumns numbers)
IsPairAnswer texts options (Table said) = IsAnswerOf texts options (Table said)
