-- Where the numbers of a model's network come from: the supply of each of its places, and the
-- numbers of each of its arcs.
-- Source: own
use Rattle.std.specs.Prelude.{ℕ, suc, ◌+◌, ◌-◌, nat_le, Bool, true, false, List, [], ◌∷◌, ◌++◌, length, if◌then◌else◌, slice_index_or, ℤ, Option, Some, None, replicate}
use Rattle.mcf_instance.specs.declared.arrays.ArrayFault.{ArrayFault}
use Rattle.mcf_instance.specs.declared.arrays.ArrayFault.TheVariants.{Size, Supply, Arc}
use Rattle.mcf_flows.specs.Network.{IsNode}
use Rattle.mcf_model.specs.Arcs.{back_length, way_length}
use Rattle.mcf_model.specs.Model.{Route}
use Rattle.mcf_places.specs.declared.origins.Origin.{Origin}
use Rattle.mcf_places.specs.declared.origins.Origin.TheVariants.{OfPlace, OfPenalty, OfRoute, OfAll}
use Rattle.mcf_places.specs.declared.origins.Sought.{Sought}
use Rattle.mcf_places.specs.declared.origins.Sought.TheVariants.{Found, Left}
use Rattle.mcf_places.specs.declared.places.Place.{Place}
use Rattle.mcf_places.specs.declared.places.Policy.{Policy}
use Rattle.mcf_places.specs.declared.rows.Kind.{Kind}
use Rattle.mcf_places.specs.declared.rows.Kind.TheVariants.{Through, Stay, Missing}
use Rattle.mcf_places.specs.Kinds.{kind_has}
use Rattle.mcf_places.specs.Planners.{Planner, row_count}

-- the number of arcs of a route
abbrev pub arc_count : Route → ℕ
arc_count r = way_length r.steps + back_length r.both r.steps

-- for each arc of routes, of which the first has a given number, the route
abbrev pub route_origins : ℕ → List Route → List Origin
route_origins v [] = []
route_origins v (r ∷ routes) = replicate (arc_count r) (OfRoute v) ++ route_origins (suc v) routes

-- 1, if the test holds
abbrev pub one_if : Bool → ℕ
one_if true = 1
one_if false = 0

-- where a penalty comes from: the place that has it, or all places
abbrev pub penalty_origin : ℕ → Option ℤ → Origin
penalty_origin v (Some penalty) = OfPenalty v
penalty_origin v None = OfAll

-- where the numbers of a route come from that is made for the place with a number
abbrev pub kind_origin : Kind → ℕ → Place → Origin
kind_origin Through v p = OfPlace v
kind_origin Stay v p = OfPlace v
kind_origin Missing v p = penalty_origin v p.penalty

-- for each route of a kind that is made for places, of which the first has a given number, where it
-- comes from
abbrev pub place_origins : Kind → Policy → ℕ → List Place → List Origin
place_origins kind policy v [] = []
place_origins kind policy v (p ∷ places) =
    replicate (one_if (kind_has kind policy p)) (kind_origin kind v p) ++ place_origins kind policy (suc v) places

-- for each arc of the model, in order, where it comes from; the last has all that is missing
abbrev pub arc_origins : Planner → List Origin
arc_origins P =
    route_origins 1 P.routes
    ++ (place_origins Through P.policy 1 P.places
    ++ (place_origins Stay P.policy 1 P.places ++ (place_origins Missing P.policy 1 P.places ++ OfAll ∷ [])))

-- where the supply of a place of the model comes from: that of the hub from all places
abbrev pub supply_origin : List Place → ℕ → Origin
supply_origin places v =
    if nat_le v (length places) then OfPlace v else (if nat_le (v - length places) 2 then OfAll else OfPlace (v - length places - 2))

-- the row of the route with a number: the row with this number, or one whose way back the route is
abbrev pub row_of : Planner → ℕ → ℕ
row_of P v = if nat_le v (row_count P) then v else slice_index_or P.returning (v - row_count P - 1) 0

-- an origin, with the row of a route
abbrev pub row_origin : Planner → Origin → Origin
row_origin P (OfPlace v) = OfPlace v
row_origin P (OfPenalty v) = OfPenalty v
row_origin P (OfRoute v) = OfRoute (row_of P v)
row_origin P OfAll = OfAll

-- where the fault of a model's network comes from: a place, a row of routes, or all of them
abbrev pub origin_of : Planner → ArrayFault → Origin
origin_of P Size = OfAll
origin_of P (Supply v) = supply_origin P.places v
origin_of P (Arc a _) = row_origin P (slice_index_or (arc_origins P) (a - 1) OfAll)

-- what a search for an arc has found: its origin, or how many arcs of the others are before it
abbrev pub found_in : Sought → List Origin → Origin
found_in (Found origin) others = origin
found_in (Left arcs) others = slice_index_or others arcs OfAll

-- an arc is among the arcs of an origin, or as many of the others are before it
abbrev pub next_in : Option ℕ → Origin → List Origin → Origin
next_in None origin others = origin
next_in (Some left) origin others = slice_index_or others left OfAll

-- a row that is named is one
abbrev pub IsRowOrigin : Planner → Origin → Type 0
IsRowOrigin P (OfRoute v) = IsNode (row_count P) v
IsRowOrigin P (OfPlace v) = Unit {0}
IsRowOrigin P (OfPenalty v) = Unit {0}
IsRowOrigin P OfAll = Unit {0}
