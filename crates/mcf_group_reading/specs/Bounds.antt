-- The least and the greatest number of members that anyone has.
-- Source: own
use Rattle.std.specs.Prelude.{ℕ, ◌==◌, nat_lt, Bool, false, ◌&&◌, List, Option, Some, None}
use Rattle.std.specs.List.{flat_map}
use Rattle.mcf_group_reading.specs.Faults.{if_kind, told}
use Rattle.mcf_group_reading.specs.GroupRows.{Sheet, first_row, name_in, name_place}
use Rattle.mcf_group_reading.specs.Limits.{Said, first_said, said_of}
use Rattle.mcf_group_reading.specs.declared.kinds.Fault.{Fault}
use Rattle.mcf_group_reading.specs.declared.kinds.FaultKind.TheVariants.{Above}
use Rattle.mcf_group_reading.specs.declared.kinds.Location.TheVariants.{Cell}
use Rattle.mcf_group_reading.specs.declared.limits.Limits.{Limits}

-- what the columns `least` and `most` say
pub record Bounds : Type 0 where
  pub least : Said
  pub most : Said

-- those of these limits
abbrev pub bounds_in : Limits → Bounds
bounds_in limits = record { least = limits.least.now; most = limits.most.now }

-- what both columns of a table say
abbrev pub bounds_of : Sheet → List ℕ → Bounds
bounds_of s rows = record { least = said_of s s.columns.least rows; most = said_of s s.columns.most rows }

-- the least number is above the greatest
abbrev pub is_above : Option ℕ → Option ℕ → Bool
is_above None most = false
is_above (Some least) None = false
is_above (Some least) (Some most) = nat_lt most least

-- the row is the first of its group, whose least number is above its greatest
abbrev pub is_empty : Sheet → List (List ℕ) → Bounds → ℕ → Bool
is_empty s names b row =
    (first_row names (name_in s row) == row) && is_above (first_said s b.least (name_in s row)) (first_said s b.most (name_in s row))

-- the fault of such a row, where its group is named
abbrev pub empty_fault : Sheet → List (List ℕ) → Bounds → ℕ → List Fault
empty_fault s names b row = told (Cell (name_place s row)) (if_kind (is_empty s names b row) Above)

-- the faults of all rows, where these are the groups that they name
abbrev pub empty_faults : Sheet → List (List ℕ) → Bounds → List ℕ → List Fault
empty_faults s names b rows = flat_map (empty_fault s names b) rows
