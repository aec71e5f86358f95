-- The groups of a table of groups.
-- Source: own
use Rattle.std.specs.Prelude.{ℕ, ◌-◌, ◌==◌, Bool, true, false, List, [], ◌∷◌, filter, map, slice_get, Option, Some, None}
use Rattle.std.specs.List.{flat_map}
use Rattle.mcf_group_reading.specs.GroupReading.{Entries}
use Rattle.mcf_group_reading.specs.declared.rows.MemberEntry.{MemberEntry}
use Rattle.mcf_group_reading.specs.declared.tables.GroupEntry.{GroupEntry}
use Rattle.mcf_groups.specs.declared.groups.Group.{Group}
use Rattle.mcf_groups.specs.declared.groups.Members.{Members}
use Rattle.mcf_groups.specs.declared.groups.Members.TheVariants.{Things, Persons}
use Rattle.mcf_roster.specs.declared.pairs.Range.{Range}
use Rattle.mcf_units.specs.Wholes.{place_number}
use Rattle.mcf_pair_tables.specs.PairRanges.{capped}

-- what a group is made of, its members, and how many of them anyone has
pub record Seen : Type 0 where
  pub of : Members
  pub members : List ℕ
  pub range : Range

-- those of a group
abbrev pub seen : Group → Seen
seen g = record { of = g.of; members = g.members.items; range = g.range }

-- things, or persons
abbrev pub kind_of : Bool → Members
kind_of true = Things
kind_of false = Persons

-- the least number: 0 if none is said
abbrev pub least_of : Option ℕ → ℕ
least_of None = 0
least_of (Some n) = capped n

-- the greatest number: that of 32 bits if none is said, since no more pairs can be chosen
abbrev pub most_of : Option ℕ → ℕ
most_of None = 4294967295
most_of (Some n) = capped n

-- how many members anyone has
abbrev pub range_of : GroupEntry → Range
range_of e = record { least = least_of e.least; most = most_of e.most }

-- the member is one of the group with this number
abbrev pub is_in_group : ℕ → MemberEntry → Bool
is_in_group number m = m.group == number

-- the number of a member in 32 bits
abbrev pub member_number : MemberEntry → ℕ
member_number m = place_number m.member

-- the members of the group with a number
abbrev pub members_in : Entries → ℕ → List ℕ
members_in said number = map member_number (filter (is_in_group number) said.members)

-- the group with these members
abbrev pub seen_with : List ℕ → GroupEntry → Seen
seen_with members e = record { of = kind_of e.things; members = members; range = range_of e }

-- the same, if there is such a one
abbrev pub group_with : List ℕ → Option GroupEntry → List Seen
group_with members None = []
group_with members (Some e) = seen_with members e ∷ []

-- the group with a number, from 1
abbrev pub group_in : Entries → ℕ → List Seen
group_in said number = group_with (members_in said number) (slice_get said.groups (number - 1))

-- the groups with these numbers
abbrev pub groups_in : Entries → List ℕ → List Seen
groups_in said numbers = flat_map (group_in said) numbers
