-- The answer to the texts of persons and things, and of groups of them.
-- Source: own
use Rattle.std.specs.Prelude.{◌≡◌, ℕ, false, ◌&&◌, List, [], ◌∷◌, codes, Option, Some, None}
use Rattle.std.specs.Option.{is_none}
use Rattle.mcf_flow_tables.specs.Lacking.{lacking}
use Rattle.mcf_flow_tables.specs.TableAnswers.{IsBrokenBy}
use Rattle.mcf_flow_tables.specs.TableTexts.{IsTableOf}
use Rattle.mcf_forms.specs.Filled.{filled_columns, fillings}
use Rattle.mcf_pair_tables.specs.GroupedAnswers.{IsGroupTableAnswer}
use Rattle.mcf_pair_tables.specs.PairAnswers.{pair_wanted}
use Rattle.mcf_pair_tables.specs.PairForms.{IsDoneTo, prepared_costs}
use Rattle.mcf_table.specs.Texts.{Record}
use Rattle.mcf_text.specs.Lines.{lines_of, numbered_lines}
use Rattle.mcf_pair_tables.specs.declared.group_answer.GroupsAnswer.{GroupsAnswer}
use Rattle.mcf_pair_tables.specs.declared.group_answer.GroupsAnswer.TheVariants.{NoColumns, NoTables, Tables}
use Rattle.mcf_pair_tables.specs.declared.group_answer.SaidGroups.{SaidGroups}
use Rattle.mcf_pair_tables.specs.declared.group_options.GroupTexts.{GroupTexts}
use Rattle.mcf_pair_tables.specs.declared.grouped.Asked.{Asked}

-- the heads that a table of groups needs
abbrev pub group_wanted : List (List ℕ)
group_wanted = codes "group" ∷ []

-- the bytes of two tables, and of the heads of their columns that are filled down, one a line
pub record GroupBytes : Type 0 where
  pub costs : List ℕ
  pub groups : List ℕ
  pub fill_down : List ℕ

-- those of texts
abbrev pub bytes_in : GroupTexts → GroupBytes
bytes_in texts = record { costs = texts.costs.now; groups = texts.groups.now; fill_down = texts.fill_down.now }

-- the numbers of the heads of columns to fill down that neither table has
abbrev pub unknown_heads : List ℕ → List Record → List Record → List ℕ
unknown_heads fill_down costs groups =
    lacking (prepared_costs (lines_of fill_down) costs) (filled_columns (lines_of fill_down) groups) (numbered_lines 1 fill_down)

-- the rows of two tables as they are read, what was done to them, and the answer to them
pub record IsSaidOf (fill_down : List ℕ) (costs groups : List Record) (asked : Asked) (said : SaidGroups) : Type 0 where
  pub costs_are : said.costs ≡ prepared_costs (lines_of fill_down) costs
  pub groups_are : said.groups ≡ filled_columns (lines_of fill_down) groups
  pub done_is : IsDoneTo (lines_of fill_down) costs said.done
  pub filled_are : said.filled.items ≡ fillings (lines_of fill_down) groups
  pub answers : IsGroupTableAnswer said.costs said.groups asked said.answer

-- the answer to the rows of two tables: the heads of columns to fill down that neither has, if
-- there are some; or the rows as they are read, and the answer to these
abbrev pub IsRowsAnswer : List ℕ → List Record → List Record → Asked → GroupsAnswer → Type 0
IsRowsAnswer fill_down costs groups asked (NoTables broken) = ⊥
IsRowsAnswer fill_down costs groups asked (NoColumns numbers) = (numbers.items ≡ unknown_heads fill_down costs groups) × ¬ (numbers.items ≡ [])
IsRowsAnswer fill_down costs groups asked (Tables said) =
    (unknown_heads fill_down costs groups ≡ []) × IsSaidOf fill_down costs groups asked said

-- two texts are tables, and this is the answer to their rows
pub record IsAnswerOf (texts : GroupBytes) (asked : Asked) (answer : GroupsAnswer) : Type 0 where
  pub costs : List Record
  pub groups : List Record
  pub are_costs : IsTableOf pair_wanted texts.costs costs
  pub are_groups : IsTableOf group_wanted texts.groups groups
  pub answers : IsRowsAnswer texts.fill_down costs groups asked answer

-- The answer to two texts: why one is no table, or both aren't; or the answer to their rows.
abbrev pub IsGroupsText : GroupBytes → Asked → GroupsAnswer → Type 0
IsGroupsText texts asked (NoTables broken) =
    IsBrokenBy pair_wanted texts.costs broken.costs × IsBrokenBy group_wanted texts.groups broken.groups
    × ((is_none broken.costs && is_none broken.groups) ≡ false)
IsGroupsText texts asked (NoColumns numbers) = IsAnswerOf texts asked (NoColumns numbers)
IsGroupsText texts asked (Tables said) = IsAnswerOf texts asked (Tables said)
