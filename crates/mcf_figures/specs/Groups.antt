-- Groups of places: two places are in one group just where loose routes join them.
-- Source: own
use Rattle.std.specs.Prelude.{◌≡◌, ℕ, zero, suc, ◌+◌, ◌-◌, ◌<◌, ◌≤◌, ◌==◌, min, max, Bool, true, false, ◌||◌, if◌then◌else◌, List, [], ◌∷◌, length, map, ℤ, pos, slice_index_or, ◌↔◌}
use Rattle.std.specs.List.{range_with_len}
use Rattle.std.specs.Ordering.{int_eq}
use Rattle.mcf_flows.specs.Network.{IsNode}
use Rattle.mcf_model.specs.Model.{Model}
use Rattle.mcf_model.specs.Tables.{no_route}
use Rattle.mcf_figures.specs.Figures.{AreJoined, is_loose}
use Rattle.mcf_figures.specs.Told.{HasFigures}

-- the group of place v
abbrev pub group_at : List ℕ → ℕ → ℕ
group_at groups v = slice_index_or groups (v - 1) 0

-- groups are numbered from 1 in the order in which they first come: each number comes before, or is
-- the next one after `count` and the numbers before
abbrev pub AreInOrder : ℕ → List ℕ → Type 0
AreInOrder count [] = Unit {0}
AreInOrder count (number ∷ numbers) = (1 ≤ number) × (number ≤ suc count) × AreInOrder (max count number) numbers

-- a number for each place, such that two places have one number just where loose routes join them
pub record AreGroups (prices : List ℤ) (m : Model) (plan : List ℤ) (groups : List ℕ) : Type 0 where
  pub by_place : length groups ≡ length m.supplies
  pub same_where_joined : (u w : ℕ) → IsNode (length m.supplies) u → IsNode (length m.supplies) w
      → (group_at groups u ≡ group_at groups w) ↔ AreJoined prices m plan u w
  pub in_order : AreInOrder 0 groups

-- ---- the groups, computed

-- entry v of a list, whose first is entry 0
abbrev pub entry : List ℕ → ℕ → ℕ
entry xs v = slice_index_or xs v 0

-- the lowest place of a group, after the group with the lowest place `high` joined that with `low`
abbrev pub relabelled : ℕ → ℕ → ℕ → ℕ
relabelled high low label = if label == high then low else label

-- the lowest places of all groups, after the groups with two of them are joined
abbrev pub merged : List ℕ → ℕ → ℕ → List ℕ
merged lows a b = map (relabelled (max a b) (min a b)) lows

-- the lowest places, after the groups of two places are joined, if the test holds
abbrev pub merged_if : Bool → List ℕ → ℕ → ℕ → List ℕ
merged_if true lows u w = merged lows (entry lows (u - 1)) (entry lows (w - 1))
merged_if false lows u w = lows

-- the lowest place of the group of each place, counted from 0, as far as the first `count` routes
-- join groups: each place is a group of its own, and each loose route joins the groups of its ends
abbrev pub lowest : List ℤ → Model → List ℤ → ℕ → List ℕ
lowest prices m plan zero = range_with_len 0 (length m.supplies)
lowest prices m plan (suc count) =
    let r = slice_index_or m.routes count no_route in
    merged_if (is_loose prices r (slice_index_or plan count (pos 0))) (lowest prices m plan count) r.tail r.head

-- how many of the first places are the lowest of their groups
abbrev pub firsts : List ℕ → ℕ → ℕ
firsts lows zero = 0
firsts lows (suc v) = firsts lows v + (if entry lows v == v then 1 else 0)

-- the group of each place by its number, which counts the groups up to its lowest place
abbrev pub numbers_by : List ℕ → List ℕ
numbers_by lows = map (λ low. firsts lows (suc low)) lows

-- the numbers of the groups in a plan
abbrev pub groups_by : List ℤ → Model → List ℤ → List ℕ
groups_by prices m plan = numbers_by (lowest prices m plan (length m.routes))

-- ---- exact savings

-- what one more unit of room on a route saves is exact: it is 0, or its ends are in one group
abbrev pub is_exact_between : List ℕ → ℕ → ℕ → ℤ → Bool
is_exact_between groups tail head saves = int_eq saves (pos 0) || (group_at groups tail == group_at groups head)

-- the same of a route of a model, whose place counts from 0
abbrev pub is_exact_by : Model → List ℕ → ℕ → ℤ → Bool
is_exact_by m groups place saves =
    is_exact_between groups (slice_index_or m.routes place no_route).tail (slice_index_or m.routes place no_route).head saves

-- there are figures of each route
abbrev pub HaveFigures : Model → List ℤ → List ℤ → Type 0
HaveFigures m prices plan = (place : ℕ) → place < length m.routes → HasFigures m prices plan place
