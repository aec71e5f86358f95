-- Where the numbers of the network of a roster's model come from.
-- Source: own
use Rattle.std.specs.Prelude.{ℕ, ◌-◌, List, ◌++◌, length, map, slice_index_or}
use Rattle.std.specs.List.{range_with_len}
use Rattle.mcf_instance.specs.declared.arrays.ArrayFault.{ArrayFault}
use Rattle.mcf_instance.specs.declared.arrays.ArrayFault.TheVariants.{Size, Supply, Arc}
use Rattle.mcf_roster.specs.declared.origins.Origin.{Origin}
use Rattle.mcf_roster.specs.declared.origins.Origin.TheVariants.{OfPair, OfPerson, OfThing, OfAll}
use Rattle.mcf_roster.specs.Rosters.{Roster}

-- so many persons, and then so many things
abbrev pub side_origins : ℕ → ℕ → List Origin
side_origins persons things = map OfPerson (range_with_len 1 persons) ++ map OfThing (range_with_len 1 things)

-- for each arc of the network, in order, where it comes from
abbrev pub arc_origins : Roster → List Origin
arc_origins R = map OfPair (range_with_len 1 (length R.pairs)) ++ side_origins (length R.takes) (length R.needs)

-- where the fault of the network comes from; the place after the persons and the things is the hub
abbrev pub origin_of : Roster → ArrayFault → Origin
origin_of R Size = OfAll
origin_of R (Supply v) = slice_index_or (side_origins (length R.takes) (length R.needs)) (v - 1) OfAll
origin_of R (Arc a _) = slice_index_or (arc_origins R) (a - 1) OfAll
