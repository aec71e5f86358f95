-- Places that must send, or take, more than they can. No network is named here.
-- Source: own, after AMO 6.7
use Rattle.std.specs.Prelude.{ℕ, Bool, not, ◌&&◌, ◌||◌, List, [], ◌∷◌, ℤ, pos, ◌+ℤ◌, ◌<ℤ◌, neg_ℤ, IsTrue, Option, Some, None}
use Rattle.std.specs.List.{All}
use Rattle.mcf_flows.specs.declared.problem.Side.{Side}
use Rattle.mcf_flows.specs.declared.problem.Side.TheVariants.{Send, Take}
use Rattle.mcf_flows.specs.Blocking.{supply_in}
use Rattle.mcf_flows.specs.Network.{when}
use Rattle.mcf_model.specs.Model.{IsLimited, Model, Route, room}

-- it leads from the set to other places
abbrev pub out_of : (ℕ → Bool) → ℕ → ℕ → Bool
out_of set tail head = set tail && not (set head)

-- it leads from other places to the set
abbrev pub into : (ℕ → Bool) → ℕ → ℕ → Bool
into set tail head = set head && not (set tail)

-- a sum over the routes
abbrev pub route_sum : (Route → ℤ) → List Route → ℤ
route_sum term [] = pos 0
route_sum term (r ∷ routes) = term r +ℤ route_sum term routes

-- a limit, or 0 if there is none
abbrev pub limit_or_zero : Option ℤ → ℤ
limit_or_zero (Some most) = most
limit_or_zero None = pos 0

-- the most that a route carries, if it has a limit
abbrev pub route_room : Route → ℤ
route_room r = room r.steps (limit_or_zero r.last_most)

-- the most that may cross by a route, there or back
abbrev pub most_across : (ℕ → ℕ → Bool) → Route → ℤ
most_across crosses r = when (crosses r.tail r.head) (route_room r) +ℤ when (r.both && crosses r.head r.tail) (route_room r)

-- the least that has to cross by a route there; nothing has to cross back
abbrev pub least_across : (ℕ → ℕ → Bool) → Route → ℤ
least_across crosses r = when (crosses r.tail r.head) r.least

-- a route that crosses, there or back, has a limit
abbrev pub IsLimitedAcross : (ℕ → ℕ → Bool) → Route → Type 0
IsLimitedAcross crosses r = IsTrue (crosses r.tail r.head || (r.both && crosses r.head r.tail)) → IsLimited r.last_most

-- the supply of the set, plus the least amounts of routes into it, is more than routes can carry
-- away
pub record IsShort (routes : List Route) (away here : ℕ → ℕ → Bool) (supply : ℤ) : Type 0 where
  pub limited : All (IsLimitedAcross away) routes
  pub short : route_sum (most_across away) routes <ℤ (supply +ℤ route_sum (least_across here) routes)

-- the places of a set must send more than they can, or take more than they can
abbrev pub IsBottleneck : Model → (ℕ → Bool) → Side → Type 0
IsBottleneck m set Send = IsShort m.routes (out_of set) (into set) (supply_in m.supplies set)
IsBottleneck m set Take = IsShort m.routes (into set) (out_of set) (neg_ℤ (supply_in m.supplies set))
