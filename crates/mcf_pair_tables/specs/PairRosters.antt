-- The roster of a table.
-- Source: own
use Rattle.std.specs.Prelude.{◌≡◌, ℕ, List, map, Result}
use Rattle.mcf_roster.specs.RosterFaults.{made_of_lists}
use Rattle.mcf_roster.specs.Rosters.{Roster}
use Rattle.mcf_roster.specs.declared.faults.RosterFault.{RosterFault}
use Rattle.mcf_roster.specs.declared.pairs.Range.{Range}
use Rattle.mcf_roster_reading.specs.Reading.{Entries}
use Rattle.mcf_pair_tables.specs.PairCosts.{pair_in}
use Rattle.mcf_pair_tables.specs.PairRanges.{asks_persons, asks_things, each_of, needs_range, takes_range}
use Rattle.mcf_pair_tables.specs.declared.options.Options.{Options}

-- how many things each person takes
abbrev pub takes_in : Entries → Options → List Range
takes_in said options = map (takes_range (asks_persons (each_of options.each said))) said.takes

-- how many persons each thing needs
abbrev pub needs_in : Entries → Options → List Range
needs_in said options = map (needs_range (asks_things (each_of options.each said))) said.needs

-- the roster of what a table says, with costs in units, or its first fault
abbrev pub made_in : ℕ → Entries → Options → Result Roster RosterFault
made_in scale said options =
    made_of_lists (takes_in said options) (needs_in said options) (map (pair_in options.maximise scale) said.pairs)

-- the roster of what a table says, or its first fault
abbrev pub IsMadeOf : ℕ → Entries → Options → Result Roster RosterFault → Type 0
IsMadeOf scale said options made = made ≡ made_in scale said options
