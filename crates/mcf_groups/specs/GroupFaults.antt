-- Faults of groups: the first one.
-- Source: own
use Rattle.std.specs.Prelude.{ℕ, suc, ◌+◌, ◌==◌, nat_lt, Bool, not, List, [], ◌∷◌, Option, None, find, option_map}
use Rattle.std.specs.List.{list_any}
use Rattle.std.specs.Option.{option_or}
use Rattle.mcf_groups.specs.declared.faults.GroupFault.{GroupFault}
use Rattle.mcf_groups.specs.declared.faults.GroupFaultKind.{GroupFaultKind}
use Rattle.mcf_groups.specs.declared.faults.GroupFaultKind.TheVariants.{Empty, Astray, Size, Crossing}
use Rattle.mcf_groups.specs.declared.faults.TheConstants.{PLACE_LIMIT}
use Rattle.mcf_groups.specs.declared.groups.Group.{Group}
use Rattle.mcf_model.specs.Faults.{is_place}
use Rattle.mcf_roster.specs.RosterFaults.{is_empty}
use Rattle.mcf_roster.specs.Rosters.{Roster}
use Rattle.mcf_groups.specs.Groups.{member_count, owner_count}
use Rattle.mcf_groups.specs.Nests.{Nest, after, befores, entry, old_before, start_of}

-- some member isn't there
abbrev pub has_astray : ℕ → List ℕ → Bool
has_astray count members = list_any (λ v. not (is_place count v)) members

-- some member doesn't stand after this place
abbrev pub some_elsewhere : ℕ → List ℕ → List ℕ → Bool
some_elsewhere place before members = list_any (λ v. not (entry before v == place)) members

-- whether a group has a fault, where the groups before it have led to this nest: no number is
-- within its range; a member isn't there; there are too many places; or not all pairs with members
-- leave, or enter, one place now: an earlier group has some of the members, and not all
abbrev pub has_fault : Roster → Nest → Group → GroupFaultKind → Bool
has_fault R S g Empty = is_empty g.range
has_fault R S g Astray = has_astray (member_count R g.of) g.members.items
has_fault R S g Size = nat_lt PLACE_LIMIT (S.places + owner_count R g.of)
has_fault R S g Crossing = some_elsewhere (old_before R S g) (befores g.of S) g.members.items

-- the faults, in the order of their tests
abbrev pub group_faults : List GroupFaultKind
group_faults = Empty ∷ Astray ∷ Size ∷ Crossing ∷ []

-- the first fault of a group
abbrev pub fault_of : Roster → Nest → Group → Option GroupFaultKind
fault_of R S g = find (has_fault R S g) group_faults

-- the first group that has a fault, and its first fault; groups are numbered from a given number
abbrev pub fault_from : Roster → Nest → ℕ → List Group → Option GroupFault
fault_from R S number [] = None
fault_from R S number (g ∷ groups) =
    option_or (option_map (λ what. record { group = number; what = what }) (fault_of R S g)) (fault_from R (after R S g) (suc number) groups)

-- the first fault of the groups of a roster
abbrev pub group_fault : Roster → List Group → Option GroupFault
group_fault R groups = fault_from R (start_of R) 1 groups
