-- Places that must send, or take, more than they can. No network is named here.
--
-- A set of places has two tests: of entries, where what arrives at a place and what it gives come
-- in, and of exits, where what leaves it and what it wants go out. What passes through a place goes
-- from its entry to its exit. A place without bounds is in the set as a whole, or not at all.
-- Source: own, after AMO 6.7
use Rattle.std.specs.Prelude.{◌≡◌, ℕ, Bool, not, ◌&&◌, IsTrue, List, ℤ, pos, ◌+ℤ◌, ◌-ℤ◌, ◌<ℤ◌, Option, Some, None}
use Rattle.std.specs.List.{All}
use Rattle.mcf_flows.specs.declared.problem.Side.{Side}
use Rattle.mcf_flows.specs.declared.problem.Side.TheVariants.{Send, Take}
use Rattle.mcf_flows.specs.Network.{when}
use Rattle.mcf_model.specs.Bottlenecks.{IsLimitedAcross, least_across, limit_or_zero, most_across, route_sum}
use Rattle.mcf_places.specs.declared.places.Bounds.{Bounds}
use Rattle.mcf_places.specs.declared.places.Place.{Place}
use Rattle.mcf_places.specs.PlannerFaults.{IsLimitedThrough}
use Rattle.mcf_places.specs.PlannerLaws.{IsSound}
use Rattle.mcf_places.specs.Planners.{EachPlace, IsPlan, Plan, Planner, given, place_sum, wanted}

-- the entries and the exits that are in a set
pub record PlaceSet : Type 0 where
  pub entries : ℕ → Bool
  pub exits : ℕ → Bool

-- a place without bounds is in the set as a whole, or not at all
abbrev pub IsWhole : PlaceSet → ℕ → Option Bounds → Type 0
IsWhole set v (Some b) = Unit {0}
IsWhole set v None = set.exits v ≡ set.entries v

-- a route between two places leads out of the set
abbrev pub leads_out : PlaceSet → ℕ → ℕ → Bool
leads_out set tail head = set.exits tail && not (set.entries head)

-- a route between two places leads into the set
abbrev pub leads_in : PlaceSet → ℕ → ℕ → Bool
leads_in set tail head = set.entries head && not (set.exits tail)

-- what passes through a place leads out of the set
abbrev pub passes_out : PlaceSet → ℕ → Bool
passes_out set v = set.entries v && not (set.exits v)

-- what passes through a place leads into the set
abbrev pub passes_in : PlaceSet → ℕ → Bool
passes_in set v = set.exits v && not (set.entries v)

-- the most that may pass through a place, if its bounds have a limit
abbrev pub through_most : Option Bounds → ℤ
through_most (Some b) = limit_or_zero b.most
through_most None = pos 0

-- the least that has to pass through a place
abbrev pub through_least : Option Bounds → ℤ
through_least (Some b) = b.least
through_least None = pos 0

-- what the places give whose entries are in the set
abbrev pub given_in : PlaceSet → List Place → ℤ
given_in set places = place_sum (λ v p. when (set.entries v) (given p)) 1 places

-- what the places want whose exits are in the set
abbrev pub wanted_in : PlaceSet → List Place → ℤ
wanted_in set places = place_sum (λ v p. when (set.exits v) (wanted p)) 1 places

-- what has to go away, with the least amounts that come here, is more than routes and bounds can
-- carry away, and more than may stay or be missing
pub record IsStuck (P : Planner) (set : PlaceSet) (away here : ℕ → ℕ → Bool) (through_away through_here : ℕ → Bool) (must may : ℤ) : Type 0 where
  pub whole : EachPlace (λ v p. IsWhole set v p.through) 1 P.places
  pub routes_limited : All (IsLimitedAcross away) P.routes
  pub places_limited : EachPlace (λ v p. IsTrue (through_away v) → IsLimitedThrough p.through) 1 P.places
  pub short :
      (route_sum (most_across away) P.routes +ℤ (place_sum (λ v p. when (through_away v) (through_most p.through)) 1 P.places +ℤ may))
      <ℤ (must +ℤ (route_sum (least_across here) P.routes +ℤ place_sum (λ v p. when (through_here v) (through_least p.through)) 1 P.places))

-- what places give, and want, is more than they can send, even if all of it stays that may; or what
-- they want, and don't give, is more than they can take, even if all is missing that may
abbrev pub IsPlannerBottleneck : Planner → PlaceSet → Side → Type 0
IsPlannerBottleneck P set Send =
    IsStuck P set (leads_out set) (leads_in set) (passes_out set) (passes_in set) (given_in set P.places -ℤ wanted_in set P.places)
    (when P.policy.unused (given_in set P.places))
IsPlannerBottleneck P set Take =
    IsStuck P set (leads_in set) (leads_out set) (passes_in set) (passes_out set) (wanted_in set P.places -ℤ given_in set P.places)
    (when P.policy.short (wanted_in set P.places))

-- if some places are a bottleneck, there is no plan
abbrev pub PlannerBottlenecksHaveNoPlan : Type 0
PlannerBottlenecksHaveNoPlan = (P : Planner) (set : PlaceSet) (side : Side) (x : Plan) → IsSound P → IsPlannerBottleneck P set side → ¬ IsPlan P x
