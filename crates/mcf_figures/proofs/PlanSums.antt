-- Laws of sums over routes and what they carry.
use Rattle.std.proofs.Common.{◌≡◌, ℕ, zero, suc, ◌<◌, eqb, List, [], ◌∷◌, length, map, set, get_or, refl, ap, sym, ◌∙◌, arith, ℤ, pos, ◌+ℤ◌, ◌-ℤ◌, ◌≤ℤ◌}
use Rattle.std.specs.List.{All, AllZip}
use Rattle.std.proofs.Math.IntN.{◌*ℤ◌}
use Rattle.std.proofs.lemmas.Int.{ints}
use Rattle.std.proofs.lemmas.List.Elements.{All-map}
use Rattle.mcf_flows.specs.declared.arc.Arc.{Arc}
use Rattle.mcf_flows.specs.Network.{IsNode, at_node, flow_sum, node_sum, when}
use Rattle.mcf_flows.specs.Flow.{net}
use Rattle.mcf_flows.specs.WellFormed.{HasEnds}
use Rattle.mcf_flows.proofs.NodeSums.{node_sum-net, node_sum-same}
use Rattle.mcf_model.specs.Model.{IsSoundRoute, Route, arriving, leaving, plan_sum, route_cost}
use Rattle.mcf_model.specs.Prices.{price_drop, reduced_route_cost}
use Rattle.mcf_model.specs.Tables.{no_route}

-- ---- sums of two lists

pub plan_sum-le : (R Q : Route → ℤ → Type 0) (s t : Route → ℤ → ℤ) → ((r : Route) (x y : ℤ) → R r x → Q r y → s r x ≤ℤ t r y)
    → (routes : List Route) (plan other : List ℤ) → AllZip R routes plan → AllZip Q routes other → plan_sum s routes plan ≤ℤ plan_sum t routes other
plan_sum-le R Q s t e [] plan other h k = omega (arith, ints)
plan_sum-le R Q s t e (r ∷ routes) [] other h k = absurd h
plan_sum-le R Q s t e (r ∷ routes) (x ∷ plan) [] h k = absurd k
plan_sum-le R Q s t e (r ∷ routes) (x ∷ plan) (y ∷ other) h k =
    omega (arith, ints, e r x y h.0 k.0, plan_sum-le R Q s t e routes plan other h.1 k.1)

-- the amount of one route changed
pub plan_sum-set : (t : Route → ℤ → ℤ) (routes : List Route) (plan : List ℤ) (i : ℕ) (x : ℤ) → i < length routes → i < length plan
    → plan_sum t routes (set plan i x) +ℤ t (get_or routes i no_route) (get_or plan i (pos 0)) ≡ plan_sum t routes plan +ℤ t (get_or routes i no_route) x
plan_sum-set t [] plan i x h k = absurd (omega arith)
plan_sum-set t (r ∷ routes) [] i x h k = absurd (omega arith)
plan_sum-set t (r ∷ routes) (y ∷ plan) zero x h k = omega (arith, ints)
plan_sum-set t (r ∷ routes) (y ∷ plan) (suc i) x h k = omega (arith, ints, plan_sum-set t routes plan i x (omega arith) (omega arith))

-- another route that counts as much
pub plan_sum-set_route : (t : Route → ℤ → ℤ) (routes : List Route) (plan : List ℤ) (i : ℕ) (r : Route) → ((x : ℤ) → t r x ≡ t (get_or routes i no_route) x)
    → plan_sum t (set routes i r) plan ≡ plan_sum t routes plan
plan_sum-set_route t [] plan i r e = refl
plan_sum-set_route t (q ∷ routes) [] zero r e = refl
plan_sum-set_route t (q ∷ routes) [] (suc i) r e = refl
plan_sum-set_route t (q ∷ routes) (x ∷ plan) zero r e = ap (λ z. z +ℤ plan_sum t routes plan) (e x)
plan_sum-set_route t (q ∷ routes) (x ∷ plan) (suc i) r e = ap (λ z. t q x +ℤ z) (plan_sum-set_route t routes plan i r e)

plan_sum-sub : (s t : Route → ℤ → ℤ) (routes : List Route) (plan : List ℤ) → plan_sum (λ r x. s r x -ℤ t r x) routes plan ≡ plan_sum s routes plan -ℤ plan_sum t routes plan
plan_sum-sub s t [] plan = refl
plan_sum-sub s t (r ∷ routes) [] = refl
plan_sum-sub s t (r ∷ routes) (x ∷ plan) = omega (arith, ints, plan_sum-sub s t routes plan)

-- ---- what the prices make of the supplies

-- a route as an arc, whose ends alone matter
abbrev ends_of : Route → Arc
ends_of r = record { src = r.tail; dst = r.head; low = pos 0; cap = pos 0; cost = pos 0 }

by_ends : (t : Arc → ℤ → ℤ) (routes : List Route) (plan : List ℤ) → flow_sum t (map ends_of routes) plan ≡ plan_sum (λ r x. t (ends_of r) x) routes plan
by_ends t [] plan = refl
by_ends t (r ∷ routes) [] = refl
by_ends t (r ∷ routes) (x ∷ plan) = ap (λ z. t (ends_of r) x +ℤ z) (by_ends t routes plan)

-- the ends of a route are places
pub record HasPlaces (places : ℕ) (r : Route) : Type 0 where
  pub tail_is_place : IsNode places r.tail
  pub head_is_place : IsNode places r.head

pub have_places : (places : ℕ) (routes : List Route) → All (IsSoundRoute places) routes → All (HasPlaces places) routes
have_places places routes h = λ i d k. let s = h i d k in record { tail_is_place = s.tail_is_place; head_is_place = s.head_is_place }

each_has_ends : (places : ℕ) (routes : List Route) → All (HasPlaces places) routes → All (λ r. HasEnds places (ends_of r)) routes
each_has_ends places routes h = λ i d k. let s = h i d k in record { src_is_node = s.tail_is_place; dst_is_node = s.head_is_place }

-- the worth of a list of supplies at the prices
abbrev pub worth : List ℤ → List ℤ → ℕ → ℤ
worth prices supplies n = node_sum (λ v. at_node prices v *ℤ at_node supplies v) n

-- each place sends its supply
abbrev pub Meets : ℕ → List ℤ → List Route → List ℤ → Type 0
Meets n supplies routes plan = (v : ℕ) → IsNode n v → leaving routes plan v -ℤ arriving routes plan v ≡ at_node supplies v

-- the reduced costs of all routes are the cost less the worth of the supplies
pub reduced_total : (n : ℕ) (supplies prices : List ℤ) (routes : List Route) (plan : List ℤ) → All (HasPlaces n) routes → Meets n supplies routes plan
    → plan_sum (reduced_route_cost prices) routes plan ≡ plan_sum route_cost routes plan -ℤ worth prices supplies n
reduced_total n supplies prices routes plan sound meets =
    let arcs = map ends_of routes in
    let total : node_sum (λ v. at_node prices v *ℤ net arcs plan v) n ≡ plan_sum (λ r x. price_drop prices r *ℤ x) routes plan =
    node_sum-net (at_node prices) n arcs plan (All-map (HasEnds n) ends_of routes (each_has_ends n routes sound))
    ∙ by_ends (λ a f. (at_node prices a.src -ℤ at_node prices a.dst) *ℤ f) routes plan in
    let each : (v : ℕ) → net arcs plan v ≡ leaving routes plan v -ℤ arriving routes plan v = λ v.
    ap (λ z. z -ℤ flow_sum (λ a f. when (eqb a.dst v) f) arcs plan) (by_ends (λ a f. when (eqb a.src v) f) routes plan)
    ∙ ap (λ z. leaving routes plan v -ℤ z) (by_ends (λ a f. when (eqb a.dst v) f) routes plan) in
    let same : node_sum (λ v. at_node prices v *ℤ net arcs plan v) n ≡ worth prices supplies n =
    node_sum-same (λ v. at_node prices v *ℤ net arcs plan v) (λ v. at_node prices v *ℤ at_node supplies v) n
    (λ v h. ap (λ z. at_node prices v *ℤ z) (each v ∙ meets v h)) in
    plan_sum-sub route_cost (λ r x. price_drop prices r *ℤ x) routes plan
    ∙ ap (λ z. plan_sum route_cost routes plan -ℤ z) (sym total ∙ same)
