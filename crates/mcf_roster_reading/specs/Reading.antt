-- What a table of persons and things says.
-- Source: own
use Rattle.std.specs.Prelude.{ℕ, List, [], ◌∷◌, ◌++◌, map, Option, Result, Ok, Err}
use Rattle.mcf_decimal.specs.declared.mark.Mark.{Mark}
use Rattle.mcf_names.specs.Names.{distinct}
use Rattle.mcf_table.specs.Texts.{Record}
use Rattle.mcf_roster_reading.specs.Columns.{column_faults}
use Rattle.mcf_roster_reading.specs.Faults.{beyond_faults}
use Rattle.mcf_roster_reading.specs.Layouts.{Layout, layout_of}
use Rattle.mcf_roster_reading.specs.CostMarks.{settled_mark}
use Rattle.mcf_roster_reading.specs.NearHeads.{near_faults}
use Rattle.mcf_roster_reading.specs.Naming.{all_name_faults, names_at, nothing_faults}
use Rattle.mcf_roster_reading.specs.Pairs.{allowed, cost_faults, pair_entry}
use Rattle.mcf_roster_reading.specs.Repeated.{repeated_faults}
use Rattle.mcf_roster_reading.specs.Said.{all_said_faults, sayings}
use Rattle.mcf_roster_reading.specs.declared.kinds.Fault.{Fault}
use Rattle.mcf_roster_reading.specs.declared.pairs.PairEntry.{PairEntry}
use Rattle.mcf_roster_reading.specs.declared.sayings.Saying.{Saying}

-- the mark before decimals, if one is named or shown; the names of the persons and of the things;
-- what is said of how many each of them takes and needs; and the pairs
pub record Entries : Type 0 where
  pub mark : Option Mark
  pub persons : List (List ℕ)
  pub things : List (List ℕ)
  pub takes : List (Option Saying)
  pub needs : List (Option Saying)
  pub pairs : List PairEntry

-- the names of the persons, each once
abbrev pub persons : List Record → Layout → List (List ℕ)
persons records l = distinct (names_at records l.persons)

-- the names of the things, each once
abbrev pub things : List Record → Layout → List (List ℕ)
things records l = distinct (names_at records l.things)

-- what the cells say
abbrev pub entries : Option Mark → List Record → Layout → Entries
entries mark records l = record {
  mark = mark;
  persons = persons records l;
  things = things records l;
  takes = sayings records l.takes (persons records l);
  needs = sayings records l.needs (things records l);
  pairs = map (pair_entry mark (persons records l) (things records l) records) (allowed records l.pairs);
}

-- The faults of heads, in order: those of the heads that are looked for, and those of columns of a
-- list that aren't read because their heads are only nearly these.
unfoldable pub head_faults : List Record → List Fault
head_faults records = column_faults records ++ near_faults records

-- The faults of names, in order: those of cells beyond the last head, those of the cells that name
-- persons and of those that name things, pairs that stand twice, and that there is nothing to read.
abbrev pub name_faults : List Record → Layout → List Fault
name_faults records l =
    beyond_faults records ++ all_name_faults l.names_once records l.persons ++ all_name_faults l.names_once records l.things
    ++ repeated_faults l.names_once records l.pairs ++ nothing_faults l.persons l.things

-- The faults of numbers, in order: of the cells on how many a person takes, of those on how many a
-- thing needs, and of the costs of pairs that aren't forbidden.
abbrev pub number_faults : Option Mark → List Record → Layout → List Fault
number_faults mark records l =
    all_said_faults records l.takes ++ all_said_faults records l.needs ++ cost_faults mark records (allowed records l.pairs)

-- the faults of cells
abbrev pub cell_faults : Option Mark → List Record → Layout → List Fault
cell_faults mark records l = name_faults records l ++ number_faults mark records l

-- these faults, or what is said if there are none
abbrev pub unless : List Fault → Result Entries (List Fault) → Result Entries (List Fault)
unless [] said = said
unless (fault ∷ faults) said = Err (fault ∷ faults)

-- what the cells say under the mark that was settled
abbrev pub read_settled : Result (Option Mark) Fault → List Record → Layout → Result Entries (List Fault)
read_settled (Ok mark) records l = unless (cell_faults mark records l) (Ok (entries mark records l))
read_settled (Err fault) records l = Err (fault ∷ [])

-- What the table says: the faults of its heads, if there are some; or the fault of a second mark,
-- if none is named and costs show both; or the faults of cells, if there are some; or else persons,
-- things and pairs.
abbrev pub read_roster : Option Mark → List Record → Result Entries (List Fault)
read_roster named records =
    unless (head_faults records)
    (read_settled (settled_mark named records ((layout_of records).pairs)) records (layout_of records))
