-- Rosters with groups: each person takes a number within a range of the things of a group, or a
-- number within a range of the persons of a group takes each thing. No network is named here.
-- Source: own
use Rattle.std.specs.Prelude.{ℕ, ◌==◌, Bool, ◌&&◌, List, length, ℤ, pos, ◌≤ℤ◌}
use Rattle.std.specs.List.{All}
use Rattle.mcf_flows.specs.Blocking.{in_list}
use Rattle.mcf_flows.specs.Network.{IsNode, when}
use Rattle.mcf_groups.specs.declared.groups.Group.{Group}
use Rattle.mcf_groups.specs.declared.groups.Members.{Members}
use Rattle.mcf_groups.specs.declared.groups.Members.TheVariants.{Things, Persons}
use Rattle.mcf_roster.specs.declared.pairs.Pair.{Pair}
use Rattle.mcf_roster.specs.Rosters.{IsChoice, IsInRange, Roster, chosen_sum, value}

-- the one of a pair that may be a member of a group
abbrev pub member_of : Members → Pair → ℕ
member_of Things p = p.what
member_of Persons p = p.who

-- the other one, for which members are counted
abbrev pub owner_of : Members → Pair → ℕ
owner_of Things p = p.who
owner_of Persons p = p.what

-- how many may be members
abbrev pub member_count : Roster → Members → ℕ
member_count R Things = length R.needs
member_count R Persons = length R.takes

-- how many there are for which members are counted
abbrev pub owner_count : Roster → Members → ℕ
owner_count R Things = length R.takes
owner_count R Persons = length R.needs

-- the pair is one of this owner with a member of the group
abbrev pub is_of : Group → ℕ → Pair → Bool
is_of g v p = (owner_of g.of p == v) && in_list g.members.items (member_of g.of p)

-- how many members of the group an owner has
abbrev pub count_in : Roster → Group → List Bool → ℕ → ℤ
count_in R g chosen v = chosen_sum (λ p. when (is_of g v p) (pos 1)) R.pairs chosen

-- each person has a number within the range of the things of a group, or each thing of its persons
abbrev pub KeepsTo : Roster → List Bool → Group → Type 0
KeepsTo R chosen g = (v : ℕ) → IsNode (owner_count R g.of) v → IsInRange g.range (count_in R g chosen v)

-- a choice of the roster that keeps to all groups
pub record IsGroupChoice (R : Roster) (groups : List Group) (chosen : List Bool) : Type 0 where
  pub is_choice : IsChoice R chosen
  pub keeps : All (KeepsTo R chosen) groups

-- no such choice costs less
pub record IsLeastGroupChoice (R : Roster) (groups : List Group) (chosen : List Bool) : Type 0 where
  pub is_choice : IsGroupChoice R groups chosen
  pub least : (other : List Bool) → IsGroupChoice R groups other → value R chosen ≤ℤ value R other
