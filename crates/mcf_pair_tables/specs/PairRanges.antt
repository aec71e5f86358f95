-- How many each person takes, and each thing needs.
-- Source: own
use Rattle.std.specs.Prelude.{ℕ, ◌^◌, nat_lt, min, Bool, true, false, ◌||◌, if◌then◌else◌, Option, Some, None}
use Rattle.std.specs.List.{list_any}
use Rattle.std.specs.Option.{is_some}
use Rattle.mcf_roster.specs.declared.pairs.Range.{Range}
use Rattle.mcf_roster_reading.specs.Reading.{Entries}
use Rattle.mcf_roster_reading.specs.declared.sayings.Saying.{Saying}
use Rattle.mcf_roster_reading.specs.declared.sayings.Saying.TheVariants.{Number, Range as Between}
use Rattle.mcf_pair_tables.specs.declared.options.Each.{Each}
use Rattle.mcf_pair_tables.specs.declared.options.Each.TheVariants.{Who, What, Both}

-- a number, or the greatest of 32 bits if it is greater: no more pairs than that can be chosen
abbrev pub capped : ℕ → ℕ
capped n = if nat_lt n (2 ^ 32) then n else 4294967295

-- one, if the test holds
abbrev pub one_if : Bool → ℕ
one_if true = 1
one_if false = 0

-- How many things a person takes: at most one, if no cell says it, or the numbers of the cell. A
-- single number is the most. Each takes one at least, if that is asked and its cell allows one.
abbrev pub takes_range : Bool → Option Saying → Range
takes_range each None = record { least = one_if each; most = 1 }
takes_range each (Some (Number n)) = record { least = min (capped n) (one_if each); most = capped n }
takes_range each (Some (Between a b)) = record { least = capped a; most = capped b }

-- How many persons a thing needs: at most one, if no cell says it, and one at least if that is
-- asked; or the numbers of the cell. A single number is exact.
abbrev pub needs_range : Bool → Option Saying → Range
needs_range each None = record { least = one_if each; most = 1 }
needs_range each (Some (Number n)) = record { least = capped n; most = capped n }
needs_range each (Some (Between a b)) = record { least = capped a; most = capped b }

-- a cell says how many a person takes or a thing needs
abbrev pub is_said : Entries → Bool
is_said said = list_any is_some said.takes || list_any is_some said.needs

-- who gets just one: the named ones; or else each thing, if a cell says how many one may have; or
-- else each person
abbrev pub each_of : Option Each → Entries → Each
each_of (Some each) said = each
each_of None said = if is_said said then What else Who

-- each person gets one
abbrev pub asks_persons : Each → Bool
asks_persons Who = true
asks_persons What = false
asks_persons Both = true

-- each thing gets one
abbrev pub asks_things : Each → Bool
asks_things Who = false
asks_things What = true
asks_things Both = true
