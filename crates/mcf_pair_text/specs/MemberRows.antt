-- Persons and things as rows of a table: all of them, or those that compete.
-- Source: own
use Rattle.std.specs.Prelude.{ℕ, Bool, false, if◌then◌else◌, List, [], ◌∷◌, ◌++◌, codes, decimal, length, map, slice_index_or, Option}
use Rattle.std.specs.List.{flat_map, range_with_len}
use Rattle.mcf_names.specs.Names.{name_at}
use Rattle.mcf_roster.specs.declared.told.Competition.{Competition}
use Rattle.mcf_roster_reading.specs.Reading.{Entries}
use Rattle.mcf_table.specs.Texts.{Record}
use Rattle.mcf_pair_text.specs.PairPlaces.{Sheet, line_in, names_under, person_column, thing_column}

-- ---- all of them

-- one of a side: `person` or `thing`, the line on which it is named first, if these are the names
-- of the rows, and its name
abbrev pub named_row : List ℕ → List Record → List (List ℕ) → List ℕ → List (List ℕ)
named_row word records under name = word ∷ line_in records under name ∷ name ∷ []

-- all of a side, which a column names
abbrev pub named : List ℕ → List Record → Option ℕ → List (List ℕ) → List (List (List ℕ))
named word records column names = map (named_row word records (names_under records column)) names

-- all persons, and all things
abbrev pub named_lists : Sheet → Entries → List (List (List ℕ))
named_lists s said =
    named (codes "person") s.rows (person_column s) said.persons ++ named (codes "thing") s.rows (thing_column s) said.things

-- ---- those that compete

-- one of those that compete: `person` or `thing`, the line on which it is named first, if these are
-- the names of the rows, its name, and its number
abbrev pub member_row : List ℕ → List Record → List (List ℕ) → List ℕ → ℕ → List (List ℕ)
member_row word records under name amount = word ∷ line_in records under name ∷ name ∷ decimal amount ∷ []

-- the one at a place, if it competes
abbrev pub member_rows : List ℕ → List Record → List (List ℕ) → List (List ℕ) → List Bool → List ℕ → ℕ → List (List (List ℕ))
member_rows word records under names tests amounts place =
    if slice_index_or tests place false then member_row word records under (name_at names place) (slice_index_or amounts place 0) ∷ [] else []

-- those of a side that compete, which a column names
abbrev pub members : List ℕ → List Record → Option ℕ → List (List ℕ) → List Bool → List ℕ → List (List (List ℕ))
members word records column names tests amounts =
    flat_map (member_rows word records (names_under records column) names tests amounts) (range_with_len 0 (length tests))

-- the persons that compete
abbrev pub member_persons : Sheet → Entries → Competition → List (List (List ℕ))
member_persons s said c = members (codes "person") s.rows (person_column s) said.persons c.persons.items c.amounts.persons.items

-- the things that compete
abbrev pub member_things : Sheet → Entries → Competition → List (List (List ℕ))
member_things s said c = members (codes "thing") s.rows (thing_column s) said.things c.things.items c.amounts.things.items

-- the persons that compete, and the things
abbrev pub member_lists : Sheet → Entries → Competition → List (List (List ℕ))
member_lists s said c = member_persons s said c ++ member_things s said c
