-- A model with a dearer route has the plans of the model.
use Rattle.std.proofs.Common.{◌≡◌, ℕ, zero, suc, ◌-◌, ◌<◌, eqb, List, [], ◌∷◌, length, set, get_or, refl, arith, ℤ, pos, ◌+ℤ◌}
use Rattle.std.specs.List.{AllZip}
use Rattle.std.proofs.Math.IntN.{◌*ℤ◌}
use Rattle.std.proofs.lemmas.Int.{ints}
use Rattle.mcf_flows.specs.Network.{when}
use Rattle.mcf_figures.proofs.PlanSums.{plan_sum-set_route}
use Rattle.mcf_model.specs.Model.{IsPlan, MayCarry, Model, Route, arriving, charged, leaving, plan_sum, route_cost}
use Rattle.mcf_model.specs.Tables.{IsRouteNumber, no_route}
use Rattle.mcf_plan_ranges.specs.Changes.{dearer, with_dearer}
use Rattle.mcf_plan_ranges.proofs.Dearer.{cost_more, may_before, may_still}

-- the dearer route may carry the same
may_set : (routes : List Route) (plan : List ℤ) (i : ℕ) (s : Route) → ((x : ℤ) → MayCarry (get_or routes i no_route) x → MayCarry s x)
    → AllZip MayCarry routes plan → AllZip MayCarry (set routes i s) plan
may_set [] plan i s e h = h
may_set (r ∷ routes) [] i s e h = absurd h
may_set (r ∷ routes) (x ∷ plan) zero s e h = (e x h.0, h.1)
may_set (r ∷ routes) (x ∷ plan) (suc i) s e h = (h.0, may_set routes plan i s e h.1)

may_unset : (routes : List Route) (plan : List ℤ) (i : ℕ) (s : Route) → ((x : ℤ) → MayCarry s x → MayCarry (get_or routes i no_route) x)
    → AllZip MayCarry (set routes i s) plan → AllZip MayCarry routes plan
may_unset [] plan i s e h = h
may_unset (r ∷ routes) [] zero s e h = absurd h
may_unset (r ∷ routes) [] (suc i) s e h = absurd h
may_unset (r ∷ routes) (x ∷ plan) zero s e h = (e x h.0, h.1)
may_unset (r ∷ routes) (x ∷ plan) (suc i) s e h = (h.0, may_unset routes plan i s e h.1)

-- what leaves a place, and what comes to it
pub leaving_still : (routes : List Route) (plan : List ℤ) (i : ℕ) (d : ℤ) (v : ℕ)
    → leaving (set routes i (dearer d (get_or routes i no_route))) plan v ≡ leaving routes plan v
leaving_still routes plan i d v = plan_sum-set_route (λ s y. when (eqb s.tail v) y) routes plan i (dearer d (get_or routes i no_route)) (λ y. refl)

pub arriving_still : (routes : List Route) (plan : List ℤ) (i : ℕ) (d : ℤ) (v : ℕ)
    → arriving (set routes i (dearer d (get_or routes i no_route))) plan v ≡ arriving routes plan v
arriving_still routes plan i d v = plan_sum-set_route (λ s y. when (eqb s.head v) y) routes plan i (dearer d (get_or routes i no_route)) (λ y. refl)

pub dearer_may : (routes : List Route) (plan : List ℤ) (i : ℕ) (d : ℤ) → AllZip MayCarry routes plan
    → AllZip MayCarry (set routes i (dearer d (get_or routes i no_route))) plan
dearer_may routes plan i d h = may_set routes plan i (dearer d (get_or routes i no_route)) (λ y g. may_still d (get_or routes i no_route) y g) h

pub may_without : (routes : List Route) (plan : List ℤ) (i : ℕ) (d : ℤ) → AllZip MayCarry (set routes i (dearer d (get_or routes i no_route))) plan
    → AllZip MayCarry routes plan
may_without routes plan i d h = may_unset routes plan i (dearer d (get_or routes i no_route)) (λ y g. may_before d (get_or routes i no_route) y g) h

pub dearer_plan : (m : Model) (k : ℕ) (d : ℤ) (plan : List ℤ) → IsRouteNumber m k → IsPlan m plan → IsPlan (with_dearer m k d) plan
dearer_plan m k d plan hk h =
    record {
      may_carry = dearer_may m.routes plan (k - 1) d h.may_carry;
      meets_supplies = λ v g.
          let a = leaving_still m.routes plan (k - 1) d v in
          let b = arriving_still m.routes plan (k - 1) d v in
          let e = h.meets_supplies v g in
          omega (arith, ints, a, b, e);
    }

pub plan_before : (m : Model) (k : ℕ) (d : ℤ) (plan : List ℤ) → IsRouteNumber m k → IsPlan (with_dearer m k d) plan → IsPlan m plan
plan_before m k d plan hk h =
    record {
      may_carry = may_without m.routes plan (k - 1) d h.may_carry;
      meets_supplies = λ v g.
          let a = leaving_still m.routes plan (k - 1) d v in
          let b = arriving_still m.routes plan (k - 1) d v in
          let e = h.meets_supplies v g in
          omega (arith, ints, a, b, e);
    }

-- what the routes cost
pub dearer_costs : (routes : List Route) (plan : List ℤ) (i : ℕ) (d : ℤ) → i < length routes → i < length plan
    → plan_sum route_cost (set routes i (dearer d (get_or routes i no_route))) plan
    ≡ plan_sum route_cost routes plan +ℤ d *ℤ charged (get_or routes i no_route).both (get_or plan i (pos 0))
dearer_costs [] plan i d h k = absurd (omega arith)
dearer_costs (r ∷ routes) [] i d h k = absurd (omega arith)
dearer_costs (r ∷ routes) (x ∷ plan) zero d h k = omega (arith, ints, cost_more d r x)
dearer_costs (r ∷ routes) (x ∷ plan) (suc i) d h k = omega (arith, ints, dearer_costs routes plan i d (omega arith) (omega arith))
