-- Which group a group crosses.
-- Source: own
use Rattle.std.specs.Prelude.{◌≡◌, ◌≢◌, ℕ, ◌-◌, Bool, true, false, not, ◌&&◌, List, take, slice_get, Option, Some, None}
use Rattle.std.specs.List.{list_any}
use Rattle.mcf_flows.specs.Blocking.{in_list}
use Rattle.mcf_groups.specs.declared.faults.GroupFaultKind.TheVariants.{Crossing}
use Rattle.mcf_groups.specs.declared.groups.Group.{Group}
use Rattle.mcf_groups.specs.declared.groups.Members.{Members}
use Rattle.mcf_groups.specs.declared.groups.Members.TheVariants.{Things, Persons}
use Rattle.mcf_roster.specs.RosterFaults.{first_number}
use Rattle.mcf_roster.specs.Rosters.{Roster}
use Rattle.mcf_groups.specs.GroupFaults.{group_fault}

-- both are made of things, or both of persons
abbrev pub is_same : Members → Members → Bool
is_same Things Things = true
is_same Things Persons = false
is_same Persons Things = false
is_same Persons Persons = true

-- some of these are in the list
abbrev pub has_some : List ℕ → List ℕ → Bool
has_some list members = list_any (in_list list) members

-- some of these aren't in the list
abbrev pub lacks_some : List ℕ → List ℕ → Bool
lacks_some list members = list_any (λ v. not (in_list list v)) members

-- another group of the same kind has some members of a group, and not all
abbrev pub is_cut_by : Group → Group → Bool
is_cut_by g other =
    is_same g.of other.of && (has_some other.members.items g.members.items && lacks_some other.members.items g.members.items)

-- the first of some groups that has some members of a group, and not all
abbrev pub cut_by : Option Group → List Group → Option ℕ
cut_by None groups = None
cut_by (Some g) groups = first_number (is_cut_by g) 1 groups

-- the first group before the one with a number that has some of its members, and not all
abbrev pub crossed_by : List Group → ℕ → Option ℕ
crossed_by groups number = cut_by (slice_get groups (number - 1)) (take (number - 1) groups)

-- where a group crosses, there is an earlier one that it crosses
abbrev pub CrossingsAreCut : Type 0
CrossingsAreCut =
    (R : Roster) (groups : List Group) (number : ℕ) → group_fault R groups ≡ Some (record { group = number; what = Crossing })
    → crossed_by groups number ≢ None
