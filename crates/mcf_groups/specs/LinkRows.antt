-- The routes of the model of a roster with groups, as rows.
-- Source: own
use Rattle.std.specs.Prelude.{◌≡◌, ◌≤◌, ℕ, ◌+◌, Bool, true, false, List, [], ◌∷◌, ◌++◌, length, map, pos, Option, Some, None}
use Rattle.std.specs.List.{range_with_len}
use Rattle.mcf_groups.specs.declared.faults.GroupFault.{GroupFault}
use Rattle.mcf_groups.specs.declared.faults.TheConstants.{PLACE_LIMIT}
use Rattle.mcf_groups.specs.declared.groups.Group.{Group}
use Rattle.mcf_groups.specs.declared.grown.Grown.{Grown}
use Rattle.mcf_model.specs.declared.rows.RouteRow.{RouteRow}
use Rattle.mcf_roster.specs.declared.pairs.Pair.{Pair}
use Rattle.mcf_roster.specs.declared.pairs.Range.{Range}
use Rattle.mcf_roster.specs.Models.{hub_of, one_or_none}
use Rattle.mcf_roster.specs.Rosters.{Roster}
use Rattle.mcf_roster.specs.TableRows.{person_row, plain_row, thing_row}
use Rattle.mcf_groups.specs.GroupFaults.{fault_from}
use Rattle.mcf_groups.specs.Groups.{owner_count}
use Rattle.mcf_groups.specs.Nests.{IsSoundNest, Nest, after, entry, leaves, nest_in, nest_of, old_before, start_of}

-- the row of a pair, where pairs stand as a nest says
abbrev pub nested_row : Nest → Pair → RouteRow
nested_row S p = plain_row (entry S.tails p.what + p.who) (entry S.heads p.who + p.what) one_or_none p.cost

-- the row of a link from an old place to a new one, or back
abbrev pub link_row : Bool → ℕ → ℕ → Range → RouteRow
link_row true old new r = plain_row old new r (pos 0)
link_row false old new r = plain_row new old r (pos 0)

-- one for each of so many new places, from the places after one to those after another
abbrev pub links_after : Bool → ℕ → ℕ → Range → ℕ → List RouteRow
links_after leave old new r count = map (λ v. link_row leave (old + v) (new + v) r) (range_with_len 1 count)

-- the links of a group
abbrev pub group_links : Roster → Nest → Group → List RouteRow
group_links R S g = links_after (leaves g.of) (old_before R S g) S.places g.range (owner_count R g.of)

-- the links of all groups
abbrev pub all_links : Roster → Nest → List Group → List RouteRow
all_links R S [] = []
all_links R S (g ∷ groups) = group_links R S g ++ all_links R (after R S g) groups

-- the rows of persons and of things, which are those of the roster
abbrev pub side_rows : Roster → List RouteRow
side_rows R =
    map (person_row (hub_of R) R.takes) (range_with_len 1 (length R.takes))
    ++ map (thing_row (length R.takes) (hub_of R) R.needs) (range_with_len 1 (length R.needs))

-- the rows, where pairs stand as a nest says, with these links
abbrev pub rows_with : Roster → Nest → List RouteRow → List RouteRow
rows_with R S links = map (nested_row S) R.pairs ++ (side_rows R ++ links)

-- the rows of the model
abbrev pub group_rows : Roster → List Group → List RouteRow
group_rows R groups = rows_with R (nest_of R (start_of R) groups) (all_links R (start_of R) groups)

-- what all groups lead to, from a nest and from the links before: their first fault; or, where
-- there is none, the nest and the links after them
abbrev pub IsGrown : Roster → List Group → Nest → List RouteRow → Nest → List RouteRow → Option GroupFault → Type 0
IsGrown R groups S links T more (Some fault) = fault_from R S 1 groups ≡ Some fault
IsGrown R groups S links T more None = (fault_from R S 1 groups ≡ None) × (T ≡ nest_of R S groups) × (more ≡ links ++ all_links R S groups)

-- the nest and the links after all groups, with at most as many places as there may be
pub record IsGrownBy (R : Roster) (groups : List Group) (made : Grown) : Type 0 where
  pub nest : nest_in made.nest ≡ nest_of R (start_of R) groups
  pub links : made.links.items ≡ all_links R (start_of R) groups
  pub sound : IsSoundNest R (nest_in made.nest)
  pub few : made.nest.places ≤ PLACE_LIMIT
