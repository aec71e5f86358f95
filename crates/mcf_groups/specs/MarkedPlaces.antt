-- What marked places of a model with groups are told by: the numbers of the routes between them and
-- the other places, which are those of a cut. Where marked places must send more than they can, the
-- routes out of them count their mosts, and those into them their leasts; where they must take
-- more, it is the other way round.
-- Source: own, after AMO 6.7
use Rattle.std.specs.Prelude.{◌≡◌, ℕ, suc, nat_lt, Bool, true, false, not, ◌&&◌, if◌then◌else◌, List, [], ◌∷◌, ◌++◌, drop, length, map, take}
use Rattle.mcf_flows.specs.declared.problem.Side.{Side}
use Rattle.mcf_flows.specs.declared.problem.Side.TheVariants.{Send, Take}
use Rattle.mcf_flows.specs.Blocking.{in_table}
use Rattle.mcf_groups.specs.declared.answering.GroupCompetition.{GroupCompetition}
use Rattle.mcf_groups.specs.declared.bounds.GroupBound.{GroupBound}
use Rattle.mcf_groups.specs.declared.groups.Group.{Group}
use Rattle.mcf_groups.specs.declared.telling.ToldGroups.{ToldGroups}
use Rattle.mcf_model.specs.Bottlenecks.{into, out_of}
use Rattle.mcf_model.specs.declared.rows.RouteRow.{RouteRow}
use Rattle.mcf_roster.specs.Amounts.{asks_persons, bound}
use Rattle.mcf_roster.specs.Rosters.{Roster}
use Rattle.mcf_roster.specs.declared.pairs.Pair.{Pair}
use Rattle.mcf_roster.specs.declared.pairs.Range.{Range}
use Rattle.mcf_groups.specs.Groups.{owner_count}
use Rattle.mcf_groups.specs.LinkRows.{all_links, nested_row}
use Rattle.mcf_groups.specs.Nests.{Nest, nest_of, start_of}

-- a route with these ends leads from marked places to others, where those must send; or from others
-- to them, where they must take
abbrev pub counts_ends : List Bool → Side → ℕ → ℕ → Bool
counts_ends marks Send tail head = out_of (in_table marks) tail head
counts_ends marks Take tail head = into (in_table marks) tail head

-- ---- pairs

-- the route of a pair does, where pairs stand as a nest says
abbrev pub counts_pair : List Bool → Side → Nest → Pair → Bool
counts_pair marks side S p = counts_ends marks side (nested_row S p).tail (nested_row S p).head

-- for each pair whether its route does: such a pair counts one more
abbrev pub counted_pairs : Roster → List Group → List Bool → Side → List Bool
counted_pairs R groups marks side = map (counts_pair marks side (nest_of R (start_of R) groups)) R.pairs

-- ---- groups

-- what counts of a link: the most of its range, if it leads there; its least, if it leads back, and
-- that isn't 0
abbrev pub bound_if : Bool → Bool → ℕ → ℕ → Range → List GroupBound
bound_if there back number v r =
    if there then record { group = number; owner = v; is_least = false; amount = r.most } ∷ []
    else if back && nat_lt 0 r.least then record { group = number; owner = v; is_least = true; amount = r.least } ∷ [] else []

-- what counts of the link of a group for one of those for which its members are counted
abbrev pub bound_of : List Bool → Side → ℕ → Range → ℕ → RouteRow → List GroupBound
bound_of marks side number r v link =
    bound_if (counts_ends marks side link.tail link.head) (counts_ends marks side link.head link.tail) number v r

-- what counts of the links of a group, which come in turn from this number on
abbrev pub link_bounds : List Bool → Side → ℕ → Range → ℕ → List RouteRow → List GroupBound
link_bounds marks side number r v [] = []
link_bounds marks side number r v (link ∷ links) = bound_of marks side number r v link ++ link_bounds marks side number r (suc v) links

-- what counts of the links of groups, which come in turn; the first group has this number
abbrev pub bounds_from : List Bool → Side → Roster → ℕ → List RouteRow → List Group → List GroupBound
bounds_from marks side R number links [] = []
bounds_from marks side R number links (g ∷ groups) =
    link_bounds marks side number g.range 1 (take (owner_count R g.of) links)
    ++ bounds_from marks side R (suc number) (drop (owner_count R g.of) links) groups

-- what counts of all groups
abbrev pub counted_bounds : Roster → List Group → List Bool → Side → List GroupBound
counted_bounds R groups marks side = bounds_from marks side R 1 (all_links R (start_of R) groups) groups

-- ---- persons and things

-- marked places, told of persons, things, pairs and groups: those that are marked, and the numbers
-- by which they must have more than there is; the pairs that count one more; and what counts of
-- groups
pub record IsToldOf (R : Roster) (groups : List Group) (found : GroupCompetition) (made : ToldGroups) : Type 0 where
  pub persons : made.found.persons.items ≡ take (length R.takes) found.places.items
  pub things : made.found.things.items ≡ take (length R.needs) (drop (length R.takes) found.places.items)
  pub side : made.found.side ≡ found.side
  pub leasts_or_mosts : made.found.amounts.persons.items ≡ map (bound (asks_persons found.side)) R.takes
  pub mosts_or_leasts : made.found.amounts.things.items ≡ map (bound (not (asks_persons found.side))) R.needs
  pub pairs : made.found.amounts.pairs.items ≡ counted_pairs R groups found.places.items found.side
  pub bounds : made.bounds.items ≡ counted_bounds R groups found.places.items found.side
