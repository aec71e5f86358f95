-- Groups as rows of a table: how many of their members anyone has, and which groups cross.
-- Source: own
use Rattle.std.specs.Prelude.{ℕ, ◌-◌, Bool, true, false, if◌then◌else◌, List, [], ◌∷◌, codes, decimal, slice_get, Option, Some, None}
use Rattle.mcf_answer_rows.specs.AnswerRows.{line_at}
use Rattle.mcf_group_reading.specs.GroupReading.{Entries as Groups}
use Rattle.mcf_group_reading.specs.declared.tables.GroupEntry.{GroupEntry}
use Rattle.mcf_groups.specs.declared.bounds.GroupBound.{GroupBound}
use Rattle.mcf_groups.specs.declared.counting.GroupCount.{GroupCount}
use Rattle.mcf_groups.specs.declared.ordering.Crossing.{Crossing}
use Rattle.mcf_roster_reading.specs.Reading.{Entries}
use Rattle.mcf_table.specs.Texts.{Record}
use Rattle.mcf_pair_text.specs.PairPlaces.{Sheet, numbered, sheet_in}
use Rattle.mcf_pair_text.specs.declared.groups.Tables.{Tables}

-- the rows of both tables, and what they say
pub record Book : Type 0 where
  pub sheet : Sheet
  pub said : Entries
  pub rows : List Record
  pub groups : Groups

-- those of these tables
abbrev pub book_in : Tables → Book
book_in tables = record { sheet = sheet_in tables.page; said = tables.said.now; rows = tables.records.now; groups = tables.groups.now }

-- what is said of the group with a number, from 1
abbrev pub entry_at : Book → ℕ → Option GroupEntry
entry_at b number = slice_get b.groups.groups (number - 1)

-- the row that names a group first; that of the heads if there is no such group
abbrev pub row_of_entry : Option GroupEntry → ℕ
row_of_entry None = 0
row_of_entry (Some e) = e.row

-- the members of a group are things
abbrev pub things_of_entry : Option GroupEntry → Bool
things_of_entry None = false
things_of_entry (Some e) = e.things

-- the line of that row
abbrev pub group_line : Book → ℕ → List ℕ
group_line b number = decimal (line_at b.rows (row_of_entry (entry_at b number)))

-- the name of the group with a number
abbrev pub group_name : Book → ℕ → List ℕ
group_name b number = numbered b.groups.names number

-- its members are things
abbrev pub of_things : Book → ℕ → Bool
of_things b number = things_of_entry (entry_at b number)

-- the word for those for which members are counted: persons for a group of things, and things for
-- one of persons
abbrev pub kind_word : Bool → List ℕ
kind_word true = codes "person"
kind_word false = codes "thing"

-- the name of one of those
abbrev pub owner_name : Book → Bool → ℕ → List ℕ
owner_name b things owner = if things then numbered b.said.persons owner else numbered b.said.things owner

-- how many members of a group one has: a word, the line on which the group is named first, its
-- name, whether it is a person or a thing that has them, its name, and how many it has
abbrev pub count_row : Book → List ℕ → GroupCount → List (List ℕ)
count_row b word at =
    word ∷ group_line b at.group ∷ group_name b at.group ∷ kind_word (of_things b at.group)
    ∷ owner_name b (of_things b at.group) at.owner ∷ decimal at.count ∷ []

-- the word for which number of a range it is
abbrev pub end_word : Bool → List ℕ
end_word true = codes "least"
end_word false = codes "most"

-- what counts of a group where there is no choice: the same, with a number of its range in place of
-- how many one has, and which number that is
abbrev pub bound_row : Book → GroupBound → List (List ℕ)
bound_row b at =
    codes "group" ∷ group_line b at.group ∷ group_name b at.group ∷ kind_word (of_things b at.group)
    ∷ owner_name b (of_things b at.group) at.owner ∷ decimal at.amount ∷ end_word at.is_least ∷ []

-- a group that crosses another: `crossing`, its line, its name, and the name of the other
abbrev pub crossing_row : Book → Crossing → List (List ℕ)
crossing_row b c = codes "crossing" ∷ group_line b c.group ∷ group_name b c.group ∷ group_name b c.crossed ∷ []
