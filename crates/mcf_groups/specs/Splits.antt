-- Splitting places: some routes that leave a place now leave a new place, which gets all that they
-- carry by one route from the old place; or some routes that enter a place now enter a new one.
-- Source: own; a place that is split for a bound is the splitting of nodes of AMO 2.4
use Rattle.std.specs.Prelude.{◌≡◌, ℕ, zero, suc, ◌-◌, ◌+◌, ◌==◌, Bool, true, false, List, [], ◌∷◌, ◌++◌, length, map, replicate, ℤ, pos, ◌+ℤ◌, ◌≤ℤ◌, Some, slice_index_or}
use Rattle.std.specs.List.{range_with_len}
use Rattle.mcf_flows.specs.Network.{IsNode, when}
use Rattle.mcf_model.specs.Model.{Model, Route}

-- several places are split at once, by routes that leave them if `leave` is true, and otherwise by
-- routes that enter them: for each route the number of the new place that it moves to, or 0 if it
-- stays; for each new place the old one; and the least and the most that each new place passes on
pub record Split : Type 0 where
  pub leave : Bool
  pub moves : List ℕ
  pub olds : List ℕ
  pub least : ℤ
  pub most : ℤ

-- the place that a route leaves, or the one that it enters
abbrev pub end_of : Bool → Route → ℕ
end_of true r = r.tail
end_of false r = r.head

-- the route from or to another place
abbrev pub with_end : Bool → ℕ → Route → Route
with_end true v r = record { tail = v; head = r.head; least = r.least; steps = r.steps; last_most = r.last_most; last_cost = r.last_cost; both = r.both }
with_end false v r = record { tail = r.tail; head = v; least = r.least; steps = r.steps; last_most = r.last_most; last_cost = r.last_cost; both = r.both }

-- the route after the split of a model with so many places
abbrev pub moved : Bool → ℕ → ℕ → Route → Route
moved leave places zero r = r
moved leave places (suc j) r = with_end leave (places + suc j) r

-- the routes after the split; those without a move stay
abbrev pub all_moved : Bool → ℕ → List ℕ → List Route → List Route
all_moved leave places [] routes = routes
all_moved leave places (j ∷ moves) [] = []
all_moved leave places (j ∷ moves) (r ∷ routes) = moved leave places j r ∷ all_moved leave places moves routes

-- the old place of a new one, which count from 1
abbrev pub old_of : List ℕ → ℕ → ℕ
old_of olds j = slice_index_or olds (j - 1) 0

-- a route of cost 0 from the old place to the new one, or back
abbrev pub link : Bool → ℕ → ℕ → ℤ → ℤ → Route
link true old new least most = record { tail = old; head = new; least = least; steps = []; last_most = Some most; last_cost = pos 0; both = false }
link false old new least most = record { tail = new; head = old; least = least; steps = []; last_most = Some most; last_cost = pos 0; both = false }

-- these routes, one for each new place
abbrev pub links_of : ℕ → Split → List Route
links_of places s = map (λ j. link s.leave (old_of s.olds j) (places + j) s.least s.most) (range_with_len 1 (length s.olds))

-- the model after the split: new places supply nothing
abbrev pub split : Model → Split → Model
split m s =
    record {
      supplies = m.supplies ++ replicate (length s.olds) (pos 0);
      routes = all_moved s.leave (length m.supplies) s.moves m.routes ++ links_of (length m.supplies) s;
    }

-- ---- what new places pass on

-- what the routes that move to a new place carry
abbrev pub passed : List ℕ → List ℤ → ℕ → ℤ
passed [] plan v = pos 0
passed (j ∷ moves) [] v = pos 0
passed (j ∷ moves) (x ∷ plan) v = when (j == v) x +ℤ passed moves plan v

-- each new place passes on an amount within the range
abbrev pub PassesWithin : Split → List ℤ → Type 0
PassesWithin s plan = (v : ℕ) → IsNode (length s.olds) v → (s.least ≤ℤ passed s.moves plan v) × (passed s.moves plan v ≤ℤ s.most)

-- the plan of the model after the split
abbrev pub split_plan : Split → List ℤ → List ℤ
split_plan s plan = plan ++ map (passed s.moves plan) (range_with_len 1 (length s.olds))

-- ---- what may be split

-- the ends of a route are places
pub record HasEnds (places : ℕ) (r : Route) : Type 0 where
  pub tail_is_place : IsNode places r.tail
  pub head_is_place : IsNode places r.head

-- a route that moves to a new place leaves, or enters, the old place of it
abbrev pub MayMove : Bool → List ℕ → ℕ → Route → Type 0
MayMove leave olds zero r = Unit {0}
MayMove leave olds (suc j) r = IsNode (length olds) (suc j) × (end_of leave r ≡ old_of olds (suc j))

-- so it is for each route
abbrev pub MayAllMove : Bool → List ℕ → List ℕ → List Route → Type 0
MayAllMove leave olds [] routes = Unit {0}
MayAllMove leave olds (j ∷ moves) [] = Unit {0}
MayAllMove leave olds (j ∷ moves) (r ∷ routes) = MayMove leave olds j r × MayAllMove leave olds moves routes
