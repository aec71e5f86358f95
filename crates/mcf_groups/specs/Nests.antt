-- Where pairs stand in the model of a roster with groups. A group of things has a place for each
-- person: the pairs of the person with things of the group leave it. A group of persons has a place
-- for each thing. The places of a group follow each other.
-- Source: own
use Rattle.std.specs.Prelude.{◌≡◌, ℕ, ◌-◌, ◌+◌, ◌≤◌, Bool, true, false, if◌then◌else◌, List, [], ◌∷◌, length, map, replicate, pos, slice_index_or}
use Rattle.std.specs.List.{All, range_with_len}
use Rattle.mcf_flows.specs.Blocking.{in_list}
use Rattle.mcf_groups.specs.declared.groups.Group.{Group}
use Rattle.mcf_groups.specs.declared.groups.Members.{Members}
use Rattle.mcf_groups.specs.declared.groups.Members.TheVariants.{Things, Persons}
use Rattle.mcf_groups.specs.declared.nests.NestTables.{NestTables}
use Rattle.mcf_roster.specs.declared.pairs.Pair.{Pair}
use Rattle.mcf_roster.specs.Models.{hub_of}
use Rattle.mcf_roster.specs.Rosters.{Roster}
use Rattle.mcf_groups.specs.Groups.{member_of, owner_count, owner_of}
use Rattle.mcf_groups.specs.Splits.{Split}

-- the number of places; for each thing the place before those that its pairs leave; and for each
-- person the place before those that its pairs enter
pub record Nest : Type 0 where
  pub places : ℕ
  pub tails : List ℕ
  pub heads : List ℕ

-- without groups, pairs leave the persons, which come first, and enter the things after them
abbrev pub start_of : Roster → Nest
start_of R = record { places = hub_of R; tails = replicate (length R.needs) 0; heads = replicate (length R.takes) (length R.takes) }

-- for each thing, or for each person, the place before
abbrev pub befores : Members → Nest → List ℕ
befores Things S = S.tails
befores Persons S = S.heads

-- the entry of the one with a number
abbrev pub entry : List ℕ → ℕ → ℕ
entry xs v = slice_index_or xs (v - 1) 0

-- the members stand after this place now, all others where they stood
abbrev pub placed : ℕ → List ℕ → List ℕ → List ℕ
placed place members before = map (λ v. if in_list members v then place else entry before v) (range_with_len 1 (length before))

-- the nest with so many places more, after which the members of a group stand
abbrev pub nest_with : Members → ℕ → ℕ → List ℕ → Nest → Nest
nest_with Things place more members S = record { places = place + more; tails = placed place members S.tails; heads = S.heads }
nest_with Persons place more members S = record { places = place + more; tails = S.tails; heads = placed place members S.heads }

-- the nest with one group more
abbrev pub after : Roster → Nest → Group → Nest
after R S g = nest_with g.of S.places (owner_count R g.of) g.members.items S

-- the place before those of persons, or of things
abbrev pub first_before : Roster → Members → ℕ
first_before R Things = 0
first_before R Persons = length R.takes

-- the place before those at which the first member stands
abbrev pub before_first : ℕ → List ℕ → List ℕ → ℕ
before_first none before [] = none
before_first none before (v ∷ members) = entry before v

-- the place before those from which the places of a group are split
abbrev pub old_before : Roster → Nest → Group → ℕ
old_before R S g = before_first (first_before R g.of) (befores g.of S) g.members.items

-- routes that leave places move for groups of things; routes that enter them for groups of persons
abbrev pub leaves : Members → Bool
leaves Things = true
leaves Persons = false

-- the new place to which the route of a pair moves
abbrev pub move_of : Group → Pair → ℕ
move_of g p = if in_list g.members.items (member_of g.of p) then owner_of g.of p else 0

-- the places that a group splits
abbrev pub split_of : Roster → Nest → Group → Split
split_of R S g =
    record {
      leave = leaves g.of;
      moves = map (move_of g) R.pairs;
      olds = map (λ v. old_before R S g + v) (range_with_len 1 (owner_count R g.of));
      least = pos g.range.least;
      most = pos g.range.most;
    }

-- where pairs stand after all groups
abbrev pub nest_of : Roster → Nest → List Group → Nest
nest_of R S [] = S
nest_of R S (g ∷ groups) = nest_of R (after R S g) groups

-- ---- nests as tables

-- the nest of tables
abbrev pub nest_in : NestTables → Nest
nest_in tables = record { places = tables.places; tails = tables.tails.items; heads = tables.heads.items }

-- pairs stand at places
pub record IsSoundNest (R : Roster) (S : Nest) : Type 0 where
  pub hub : hub_of R ≤ S.places
  pub tails_long : length S.tails ≡ length R.needs
  pub heads_long : length S.heads ≡ length R.takes
  pub tails_fit : All (λ x. x + length R.takes ≤ S.places) S.tails
  pub heads_fit : All (λ x. x + length R.needs ≤ S.places) S.heads
