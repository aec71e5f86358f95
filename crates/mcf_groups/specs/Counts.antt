-- How many members of a group those have for which members are counted. Groups and those that have
-- members are counted from 1.
-- Source: own
use Rattle.std.specs.Prelude.{◌≡◌, ℕ, ◌+◌, ◌==◌, ◌-◌, nat_lt, Bool, false, ◌&&◌, ◌||◌, if◌then◌else◌, List, [], ◌∷◌, filter, length, map, pos, set, slice_get, slice_index_or, Option, Some, None}
use Rattle.std.specs.List.{flat_map, range_with_len}
use Rattle.std.specs.Option.{option_to_list}
use Rattle.mcf_flows.specs.Blocking.{in_list}
use Rattle.mcf_groups.specs.declared.counting.GroupCount.{GroupCount}
use Rattle.mcf_groups.specs.declared.groups.Group.{Group}
use Rattle.mcf_groups.specs.declared.ordering.Crossing.{Crossing}
use Rattle.mcf_roster.specs.declared.pairs.Pair.{Pair}
use Rattle.mcf_roster.specs.declared.pairs.Range.{Range}
use Rattle.mcf_roster.specs.Rosters.{Roster}
use Rattle.mcf_groups.specs.Groups.{count_in, member_of, owner_count, owner_of}
use Rattle.mcf_groups.specs.Orders.{group_at}

-- the pairs that are chosen
abbrev pub chosen_pairs : List Pair → List Bool → List Pair
chosen_pairs [] chosen = []
chosen_pairs (p ∷ pairs) [] = []
chosen_pairs (p ∷ pairs) (c ∷ chosen) = if c then p ∷ chosen_pairs pairs chosen else chosen_pairs pairs chosen

-- the pair at a place, if it is chosen
abbrev pub chosen_at : List Pair → List Bool → ℕ → List Pair
chosen_at pairs chosen place = if slice_index_or chosen place false then option_to_list (slice_get pairs place) else []

-- the pair is one of a member of the group
abbrev pub has_member : Group → Pair → Bool
has_member g p = in_list g.members.items (member_of g.of p)

-- those that have members of the group by some pairs
abbrev pub owners_by : Group → List Pair → List ℕ
owners_by g pairs = map (owner_of g.of) (filter (has_member g) pairs)

-- how often a number stands in a list
abbrev pub times_in : List ℕ → ℕ → ℕ
times_in numbers v = length (filter (λ n. n == v) numbers)

-- the tallies after a number, if it is one of those that are counted, which are numbered from 1
abbrev pub counted_once : ℕ → List ℕ → List ℕ
counted_once number tallied =
    if nat_lt 0 number && nat_lt (number - 1) (length tallied) then set tallied (number - 1) (slice_index_or tallied (number - 1) 0 + 1) else tallied

-- how many members of the group one has by some pairs
abbrev pub members_by : Group → List Pair → ℕ → ℕ
members_by g pairs v = times_in (owners_by g pairs) v

-- how many each of those has for which members are counted
abbrev pub tallies : Roster → Group → List Pair → List ℕ
tallies R g pairs = map (members_by g pairs) (range_with_len 1 (owner_count R g.of))

-- ---- rows of counts

-- the one at a place, and how many it has by these tallies
abbrev pub count_row : ℕ → List ℕ → ℕ → GroupCount
count_row number tallied place = record { group = number; owner = place + 1; count = slice_index_or tallied place 0 }

-- the one at a place, if it may have members of the group, by the tallies of all pairs
abbrev pub count_rows : ℕ → List ℕ → List ℕ → ℕ → List GroupCount
count_rows number all tallied place = if nat_lt 0 (slice_index_or all place 0) then count_row number tallied place ∷ [] else []

-- all those of a group
abbrev pub group_counts : Roster → List Pair → ℕ → Option Group → List GroupCount
group_counts R chosen number None = []
group_counts R chosen number (Some g) =
    flat_map (count_rows number (tallies R g R.pairs) (tallies R g chosen)) (range_with_len 0 (length (tallies R g chosen)))

-- those of all groups: for each group, in order, all that may have members of it, and how many they
-- have by the chosen pairs
abbrev pub counts_of : Roster → List Group → List Bool → List GroupCount
counts_of R groups chosen =
    flat_map (λ number. group_counts R (chosen_pairs R.pairs chosen) number (group_at groups number)) (range_with_len 1 (length groups))

-- ---- counts out of range

-- the number is outside the range
abbrev pub is_outside : Range → ℕ → Bool
is_outside r count = nat_lt count r.least || nat_lt r.most count

-- the one at a place, if it has too few, or too many
abbrev pub broken_rows : ℕ → Range → List ℕ → ℕ → List GroupCount
broken_rows number r tallied place = if is_outside r (slice_index_or tallied place 0) then count_row number tallied place ∷ [] else []

-- all those of a group
abbrev pub group_broken : Roster → List Pair → ℕ → Option Group → List GroupCount
group_broken R chosen number None = []
group_broken R chosen number (Some g) =
    flat_map (broken_rows number g.range (tallies R g chosen)) (range_with_len 0 (length (tallies R g chosen)))

-- those of the groups that are left out
abbrev pub broken_of : Roster → List Group → List Crossing → List Bool → List GroupCount
broken_of R groups crossings chosen =
    flat_map (λ c. group_broken R (chosen_pairs R.pairs chosen) c.group (group_at groups c.group)) crossings

-- ---- law

-- these are the numbers that ranges are about
abbrev pub CountsAreOfChoices : Type 0
CountsAreOfChoices =
    (R : Roster) (g : Group) (chosen : List Bool) (v : ℕ) → pos (members_by g (chosen_pairs R.pairs chosen) v) ≡ count_in R g chosen v
