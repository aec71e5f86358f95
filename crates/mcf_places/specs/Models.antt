-- The model of a planner's problem. A place with bounds is two places of the model, with a route
-- between them: its entry, where what arrives and what it gives come in, and its exit, where what
-- leaves and what it wants go out. Two more places, the hub and the gate, take what stays and give
-- what is missing.
-- Source: own
use Rattle.std.specs.Prelude.{ℕ, suc, ◌+◌, Bool, true, false, ◌&&◌, ◌-◌, List, [], ◌∷◌, ◌++◌, length, map, take, drop, ℤ, pos, neg_ℤ, int_lt, Option, Some, None, option_map, slice_index_or}
use Rattle.std.specs.List.{list_any}
use Rattle.std.specs.Option.{is_some}
use Rattle.mcf_flows.specs.Network.{at_node}
use Rattle.mcf_model.specs.Model.{Model, Route}
use Rattle.mcf_places.specs.declared.places.Bounds.{Bounds}
use Rattle.mcf_places.specs.declared.places.Place.{Place}
use Rattle.mcf_places.specs.declared.places.Policy.{Policy}
use Rattle.mcf_places.specs.Planners.{Plan, Planner, given, missing_cost, passes, place_sum, total_missing, wanted}

-- ---- the places of the model: entries, the hub, the gate, exits

-- the place takes what stays
abbrev pub hub_of : List Place → ℕ
hub_of places = length places + 1

-- the place gives what is missing
abbrev pub gate_of : List Place → ℕ
gate_of places = length places + 2

-- the number of the exit of a place; without bounds this is its entry
abbrev pub exit_by : ℕ → ℕ → Option Bounds → ℕ
exit_by n v (Some bounds) = n + 2 + v
exit_by n v None = v

-- the place with a number
abbrev pub place_at : List Place → ℕ → Place
place_at places v = slice_index_or places (v - 1) (record { supply = pos 0; through = None; penalty = None })

-- the number of the exit of the place with a number
abbrev pub exit_of : List Place → ℕ → ℕ
exit_of places v = exit_by (length places) v (place_at places v).through

-- whether some place has bounds
abbrev pub some_bounds : List Place → Bool
some_bounds places = list_any (λ p. is_some p.through) places

-- the places that have exits of their own, and those between them: all, if some place has bounds
abbrev pub with_exits : Bool → List Place → List Place
with_exits true places = places
with_exits false places = []

-- the supply of an entry
abbrev pub entry_supply : Option Bounds → Place → ℤ
entry_supply (Some bounds) p = given p
entry_supply None p = p.supply

-- the supply of an exit
abbrev pub exit_supply : Option Bounds → Place → ℤ
exit_supply (Some bounds) p = neg_ℤ (wanted p)
exit_supply None p = pos 0

-- the supply of the hub, which balances that of all places
abbrev pub hub_supply : List Place → ℤ
hub_supply places = place_sum (λ v p. neg_ℤ p.supply) 1 places

-- the supplies of the model's places
abbrev pub supplies_of : List Place → List ℤ
supplies_of places =
    map (λ p. entry_supply p.through p) places
    ++ (hub_supply places ∷ pos 0 ∷ map (λ p. exit_supply p.through p) (with_exits (some_bounds places) places))

-- ---- the routes of the model

-- a route leaves the exit of its tail
abbrev pub from_exit : List Place → Route → Route
from_exit places r =
    record {
      tail = exit_of places r.tail;
      head = r.head;
      least = r.least;
      steps = r.steps;
      last_most = r.last_most;
      last_cost = r.last_cost;
      both = r.both;
    }

-- a route of one step, one way
abbrev pub plain_route : ℕ → ℕ → ℤ → Option ℤ → ℤ → Route
plain_route tail head least most cost =
    record { tail = tail; head = head; least = least; steps = []; last_most = most; last_cost = cost; both = false }

-- a route, if the test holds
abbrev pub route_if : Bool → Route → Option Route
route_if true r = Some r
route_if false r = None

-- from the entry of a place with bounds to its exit
abbrev pub through_route : List Place → ℕ → Place → Option Route
through_route places v p =
    option_map (λ (b : Bounds). plain_route v (length places + 2 + v) b.least b.most b.cost) p.through

-- from a place that gives, if supplies may stay, to the hub
abbrev pub stay_route : Bool → ℕ → ℕ → Place → Option Route
stay_route unused hub v p =
    route_if (unused && int_lt (pos 0) p.supply) (plain_route v hub (pos 0) (Some (given p)) (pos 0))

-- from the gate to the exit of a place that wants, if demands may be missing; each unit costs the
-- penalty
abbrev pub missing_route : Policy → List Place → ℕ → Place → Option Route
missing_route policy places v p =
    route_if (policy.short && int_lt p.supply (pos 0))
    (plain_route (gate_of places) (exit_by (length places) v p.through) (pos 0) (Some (wanted p)) (missing_cost policy p))

-- an element before others, if there is one
abbrev pub with_first : {X : Type 0} → Option X → List X → List X
with_first (Some x) xs = x ∷ xs
with_first None xs = xs

-- the routes made for places, of which the first has a given number
abbrev pub routes_by : (ℕ → Place → Option Route) → ℕ → List Place → List Route
routes_by make v [] = []
routes_by make v (p ∷ places) = with_first (make v p) (routes_by make (suc v) places)

-- the routes of the places' bounds
abbrev pub throughs : Planner → List Route
throughs P = routes_by (through_route P.places) 1 P.places

-- the routes of what stays
abbrev pub stayings : Planner → List Route
stayings P = routes_by (stay_route P.policy.unused (hub_of P.places)) 1 P.places

-- the routes of what is missing
abbrev pub missings : Planner → List Route
missings P = routes_by (missing_route P.policy P.places) 1 P.places

-- all that is missing comes from the hub to the gate
abbrev pub gate_route : ℤ → Planner → Route
gate_route most P = plain_route (hub_of P.places) (gate_of P.places) (pos 0) (Some most) (pos 0)

-- the model of a planner's problem in which no more than `most` units are missing
abbrev pub model_of : ℤ → Planner → Model
model_of most P =
    record {
      supplies = supplies_of P.places;
      routes = map (from_exit P.places) P.routes ++ (throughs P ++ (stayings P ++ (missings P ++ gate_route most P ∷ [])));
    }

-- ---- plans of the planner's problem, and of its model

-- the amounts that the routes made for places carry
abbrev pub amounts_by : (ℕ → Place → Option Route) → (ℕ → Place → ℤ) → ℕ → List Place → List ℤ
amounts_by make amount v [] = []
amounts_by make amount v (p ∷ places) =
    with_first (option_map (λ (r : Route). amount v p) (make v p)) (amounts_by make amount (suc v) places)

-- the model's plan of a plan
abbrev pub routes_of : Planner → Plan → List ℤ
routes_of P x =
    x.carries
    ++ (amounts_by (through_route P.places) (passes P x) 1 P.places
    ++ (amounts_by (stay_route P.policy.unused (hub_of P.places)) (λ v p. at_node x.stays v) 1 P.places
    ++ (amounts_by (missing_route P.policy P.places) (λ v p. at_node x.missing v) 1 P.places ++ total_missing P x ∷ [])))

-- the first amount, if there is a route that carries it
abbrev pub first_amount : Option Route → List ℤ → ℤ
first_amount (Some r) amounts = slice_index_or amounts 0 (pos 0)
first_amount None amounts = pos 0

-- the amounts after the first, if there is a route that carries it
abbrev pub later_amounts : Option Route → List ℤ → List ℤ
later_amounts (Some r) amounts = drop 1 amounts
later_amounts None amounts = amounts

-- an amount for each place: what its route carries, or 0 if it has none
abbrev pub by_place : (ℕ → Place → Option Route) → ℕ → List Place → List ℤ → List ℤ
by_place make v [] amounts = []
by_place make v (p ∷ places) amounts =
    first_amount (make v p) amounts ∷ by_place make (suc v) places (later_amounts (make v p) amounts)

-- what the model's routes carry, without those of the planner's routes and of the bounds
abbrev pub side_amounts : Planner → List ℤ → List ℤ
side_amounts P plan = drop (length (throughs P)) (drop (length P.routes) plan)

-- the plan of the model's plan
abbrev pub plan_of : Planner → List ℤ → Plan
plan_of P plan =
    record {
      carries = take (length P.routes) plan;
      stays = by_place (stay_route P.policy.unused (hub_of P.places)) 1 P.places (side_amounts P plan);
      missing = by_place (missing_route P.policy P.places) 1 P.places (drop (length (stayings P)) (side_amounts P plan));
    }
