-- Faults of rosters: the first one.
-- Source: own
use Rattle.std.specs.Prelude.{ℕ, suc, ◌+◌, ◌≤◌, nat_lt, Bool, true, false, not, ◌&&◌, List, [], ◌∷◌, length, if◌then◌else◌, Option, Some, None, option_map, Result, Ok, Err}
use Rattle.std.specs.List.{All}
use Rattle.std.specs.Option.{option_or}
use Rattle.mcf_flows.specs.Network.{IsNode}
use Rattle.mcf_model.specs.Faults.{is_place}
use Rattle.mcf_roster.specs.declared.faults.RosterFault.{RosterFault}
use Rattle.mcf_roster.specs.declared.faults.RosterFault.TheVariants.{Size, Takes, Needs, Ends}
use Rattle.mcf_roster.specs.declared.faults.TheConstants.{SIZE_LIMIT}
use Rattle.mcf_roster.specs.declared.pairs.Pair.{Pair}
use Rattle.mcf_roster.specs.declared.pairs.Range.{Range}
use Rattle.mcf_roster.specs.Rosters.{Roster}

-- no number is within the range
abbrev pub is_empty : Range → Bool
is_empty r = nat_lt r.most r.least

-- an end of the pair is none of so many persons and things
abbrev pub is_astray : ℕ → ℕ → Pair → Bool
is_astray persons things p = not (is_place persons p.who && is_place things p.what)

-- the number of the first for which a test holds, if they are numbered from a given number
abbrev pub first_number : {X : Type 0} → (X → Bool) → ℕ → List X → Option ℕ
first_number test v [] = None
first_number test v (x ∷ xs) = if test x then Some v else first_number test (suc v) xs

-- a fault, if the test holds
abbrev pub fault_if : Bool → RosterFault → Option RosterFault
fault_if true fault = Some fault
fault_if false fault = None

-- the first fault: too many persons and things, an empty range of a person or of a thing, a pair
-- whose ends aren't there
abbrev pub roster_fault : List Range → List Range → List Pair → Option RosterFault
roster_fault takes needs pairs =
    option_or (fault_if (nat_lt SIZE_LIMIT (length takes + length needs)) Size)
    (option_or (option_map Takes (first_number is_empty 1 takes))
    (option_or (option_map Needs (first_number is_empty 1 needs))
    (option_map Ends (first_number (is_astray (length takes) (length needs)) 1 pairs))))

-- the roster of ranges and pairs
abbrev pub roster_of : List Range → List Range → List Pair → Roster
roster_of takes needs pairs = record { takes = takes; needs = needs; pairs = pairs }

-- the first fault, or the roster if there is none
abbrev pub roster_unless : Option RosterFault → Roster → Result Roster RosterFault
roster_unless (Some fault) R = Err fault
roster_unless None R = Ok R

-- the result of making a roster: it, or the first fault
abbrev pub made_of_lists : List Range → List Range → List Pair → Result Roster RosterFault
made_of_lists takes needs pairs = roster_unless (roster_fault takes needs pairs) (roster_of takes needs pairs)

-- ---- rosters without faults

-- some number is within the range
abbrev pub HasNumbers : Range → Type 0
HasNumbers r = r.least ≤ r.most

-- the ends of the pair are there
pub record HasBothEnds (persons things : ℕ) (p : Pair) : Type 0 where
  pub person : IsNode persons p.who
  pub thing : IsNode things p.what

-- the roster has no fault
pub record IsSoundRoster (R : Roster) : Type 0 where
  pub few : (length R.takes + length R.needs) ≤ SIZE_LIMIT
  pub takes : All HasNumbers R.takes
  pub needs : All HasNumbers R.needs
  pub pairs : All (HasBothEnds (length R.takes) (length R.needs)) R.pairs
