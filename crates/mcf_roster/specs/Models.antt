-- The model of a roster. Its places are the persons, after them the things, and last a hub. All
-- that a person takes comes from the hub, goes by pairs to things, and back to the hub; nothing is
-- supplied.
-- Source: own
use Rattle.std.specs.Prelude.{ℕ, ◌+◌, Bool, List, [], ◌++◌, length, map, take, replicate, ℤ, pos, int_lt, Some, false}
use Rattle.std.specs.List.{range_with_len}
use Rattle.mcf_flows.specs.Network.{when}
use Rattle.mcf_model.specs.Model.{Model, Route}
use Rattle.mcf_roster.specs.declared.pairs.Pair.{Pair}
use Rattle.mcf_roster.specs.declared.pairs.Range.{Range}
use Rattle.mcf_roster.specs.Rosters.{Roster, range_at, takers_of, taken_by}

-- the last place
abbrev pub hub_of : Roster → ℕ
hub_of R = length R.takes + length R.needs + 1

-- a route one way, for a number of units within a range
abbrev pub plain_route : ℕ → ℕ → Range → ℤ → Route
plain_route tail head r cost =
    record { tail = tail; head = head; least = pos r.least; steps = []; last_most = Some (pos r.most); last_cost = cost; both = false }

-- one or none
abbrev pub one_or_none : Range
one_or_none = record { least = 0; most = 1 }

-- from the person of a pair to the thing, after so many persons
abbrev pub pair_route : ℕ → Pair → Route
pair_route persons p = plain_route p.who (persons + p.what) one_or_none p.cost

-- from the hub to the person with a number
abbrev pub person_route : Roster → ℕ → Route
person_route R v = plain_route (hub_of R) v (range_at R.takes v) (pos 0)

-- from the thing with a number to the hub
abbrev pub thing_route : Roster → ℕ → Route
thing_route R v = plain_route (length R.takes + v) (hub_of R) (range_at R.needs v) (pos 0)

-- the model of a roster
abbrev pub model_of : Roster → Model
model_of R =
    record {
      supplies = replicate (hub_of R) (pos 0);
      routes = map (pair_route (length R.takes)) R.pairs
          ++ (map (person_route R) (range_with_len 1 (length R.takes)) ++ map (thing_route R) (range_with_len 1 (length R.needs)));
    }

-- ---- choices, and plans of the model

-- what the route of a pair carries: 1 if the pair is chosen, otherwise 0
abbrev pub amount_of : Bool → ℤ
amount_of chosen = when chosen (pos 1)

-- the model's plan of a choice
abbrev pub plan_of : Roster → List Bool → List ℤ
plan_of R chosen =
    map amount_of chosen
    ++ (map (taken_by R chosen) (range_with_len 1 (length R.takes)) ++ map (takers_of R chosen) (range_with_len 1 (length R.needs)))

-- a pair is chosen if its route carries something
abbrev pub is_carried : ℤ → Bool
is_carried x = int_lt (pos 0) x

-- the choice of a plan of the model
abbrev pub choice_of : Roster → List ℤ → List Bool
choice_of R plan = map is_carried (take (length R.pairs) plan)
