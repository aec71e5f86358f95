-- The loops that make the residual network of a plan, and its limits.
use Rattle.std.proofs.Common.{◌≡◌, ℕ, zero, suc, ◌+◌, ◌-◌, ◌*◌, ◌<◌, ◌≤◌, Bool, true, false, List, [], ◌∷◌, ◌++◌, length, map, take, drop, get_or, refl, ap, sym, ◌∙◌, arith, drop-cons, append_assoc, ℤ, pos, ◌≤ℤ◌, ◌+ℤ◌, ◌-ℤ◌}
use Rattle.std.specs.Prelude.{max, replicate, sum, unsigned_abs}
use Rattle.std.specs.List.{All}
use Rattle.std.proofs.Math.Nat.{mul-le-mul}
use Rattle.std.proofs.lemmas.Int.{ints, by_lt_z}
use Rattle.std.proofs.lemmas.List.{append-nil, length-replicate, map-append, take_all}
use Rattle.std.proofs.Math.Seq.{take-length}
use Rattle.std.proofs.lemmas.List.Elements.{All-cons, All-head, All-tail}
use Rattle.mcf_flows.specs.declared.arc.Arc.{Arc}
use Rattle.mcf_flows.specs.Limits.{arc_limit, limits}
use Rattle.mcf_flows.specs.Network.{node_count, when}
use Rattle.mcf_flows.specs.WellFormed.{HasEnds, IsArcWithinLimits, IsUpTo, IsWellFormed, weight}
use Rattle.mcf_flows.proofs.Bounds.{size_up_to, sum-weights}
use Rattle.mcf_instance.specs.declared.arrays.RawArc.{RawArc}
use Rattle.mcf_instance.specs.Arrays.{arc_of_numbers}
use Rattle.mcf_figures.specs.Figures.{amount_at, may_carry}
use Rattle.mcf_model.specs.declared.rows.Step.{Step}
use Rattle.mcf_model.specs.Model.{Model, Route, charge, charged}
use Rattle.mcf_model.specs.Tables.{IsRouteNumber, no_route, route_at}
use Rattle.mcf_plan_ranges.specs.PlanRanges.{AreWithinLimits, HasSmallCosts}
use Rattle.mcf_plan_ranges.specs.Private.Sides.{grows}
use Rattle.mcf_plan_ranges.specs.Private.Units.{next, others, residual, unit_arc, units}
use Rattle.mcf_plan_ranges.proofs.Convex.{charge_past, charge_within, one_more}
use Rattle.mcf_plan_ranges.proofs.Dearer.{charged_next, shifted}
use Rattle.mcf_plan_ranges.proofs.UnitLaws.{others_all, others_length}

-- ---- the arcs

-- the arcs that are made so far, and those still to come
pushed : (old new : List RawArc) (arc : RawArc) (a : Arc) (rest : List Arc) → new ≡ old ++ arc ∷ [] → arc_of_numbers arc ≡ a
    → map arc_of_numbers new ++ rest ≡ map arc_of_numbers old ++ a ∷ rest
pushed old new arc a rest e k =
    ap (λ xs. map arc_of_numbers xs ++ rest) e
    ∙ ap (λ xs. xs ++ rest) (map-append arc_of_numbers old (arc ∷ []))
    ∙ append_assoc (map arc_of_numbers old) (arc_of_numbers arc ∷ []) rest
    ∙ ap (λ b. map arc_of_numbers old ++ b ∷ rest) k

-- both arcs of the routes from one place up to another
abbrev pub slab : ℕ → ℕ → List Route → List ℤ → List Arc
slab first end routes plan = units (take (end - first) (drop first routes)) (take (end - first) (drop first plan))

pub slab_more : (place end : ℕ) (routes : List Route) (plan : List ℤ) → place < end → place < length routes → place < length plan
    → slab place end routes plan
    ≡ unit_arc false (get_or routes place no_route) (get_or plan place (pos 0)) ∷ unit_arc true (get_or routes place no_route) (get_or plan place (pos 0))
    ∷ slab (place + 1) end routes plan
slab_more place end routes plan h hr hp =
    let e : end - place ≡ suc (end - (place + 1)) = omega arith in
    let f : suc place ≡ place + 1 = omega arith in
    rw (e, drop-cons routes place no_route hr, drop-cons plan place (pos 0) hp, f) refl

pub slab_end : (place end : ℕ) (routes : List Route) (plan : List ℤ) → end ≤ place → slab place end routes plan ≡ []
slab_end place end routes plan h = let e : end - place ≡ 0 = omega arith in rw e refl

-- two arcs more
pub pushed_two : (old mid new : List RawArc) (a b : RawArc) (place end : ℕ) (routes : List Route) (plan : List ℤ) (all : List Arc)
    → place < end → place < length routes → place < length plan → mid ≡ old ++ a ∷ [] → new ≡ mid ++ b ∷ []
    → arc_of_numbers a ≡ unit_arc false (get_or routes place no_route) (get_or plan place (pos 0))
    → arc_of_numbers b ≡ unit_arc true (get_or routes place no_route) (get_or plan place (pos 0))
    → map arc_of_numbers old ++ slab place end routes plan ≡ all → map arc_of_numbers new ++ slab (place + 1) end routes plan ≡ all
pushed_two old mid new a b place end routes plan all h hr hp e1 e2 ea eb before =
    let more = unit_arc false (get_or routes place no_route) (get_or plan place (pos 0)) in
    let less = unit_arc true (get_or routes place no_route) (get_or plan place (pos 0)) in
    pushed mid new b less (slab (place + 1) end routes plan) e2 eb
    ∙ pushed old mid a more (less ∷ slab (place + 1) end routes plan) e1 ea
    ∙ ap (λ xs. map arc_of_numbers old ++ xs) (sym (slab_more place end routes plan h hr hp)) ∙ before

-- no more
pub pushed_all : (arcs : List RawArc) (place end : ℕ) (routes : List Route) (plan : List ℤ) (all : List Arc) → end ≤ place
    → map arc_of_numbers arcs ++ slab place end routes plan ≡ all → map arc_of_numbers arcs ≡ all
pushed_all arcs place end routes plan all h before =
    sym (append-nil (map arc_of_numbers arcs)) ∙ ap (λ xs. map arc_of_numbers arcs ++ xs) (sym (slab_end place end routes plan h)) ∙ before

rest_taken : {X : Type 0} (i : ℕ) (xs : List X) → take (length xs - i) (drop i xs) ≡ drop i xs
rest_taken zero xs = let e : length xs - 0 ≡ length xs = omega arith in rw e (take-length xs)
rest_taken {X} (suc i) [] = take_all (length {A = X} [] - suc i) [] (omega arith)
rest_taken (suc i) (x ∷ xs) = let e : suc (length xs) - suc i ≡ length xs - i = omega arith in rw e (rest_taken i xs)

pub slabs_are_others : (i : ℕ) (routes : List Route) (plan : List ℤ) → length plan ≡ length routes
    → slab 0 i routes plan ++ slab (suc i) (length routes) routes plan ≡ others i routes plan
slabs_are_others i routes plan e =
    let f : take (length routes - suc i) (drop (suc i) plan) ≡ drop (suc i) plan =
    ap (λ n. take (n - suc i) (drop (suc i) plan)) (sym e) ∙ rest_taken (suc i) plan in
    let g : i - 0 ≡ i = omega arith in
    ap (λ j. units (take j routes) (take j plan) ++ slab (suc i) (length routes) routes plan) g
    ∙ ap (λ xs. units (take i routes) (take i plan) ++ units xs (take (length routes - suc i) (drop (suc i) plan))) (rest_taken (suc i) routes)
    ∙ ap (λ ys. units (take i routes) (take i plan) ++ units (drop (suc i) routes) ys) f

pub arcs_are_residual : (m : Model) (plan : List ℤ) (k : ℕ) (less : Bool) (first second third : List RawArc) (a : RawArc) → IsRouteNumber m k
    → length plan ≡ length m.routes → first ≡ [] ++ a ∷ [] → arc_of_numbers a ≡ unit_arc less (route_at m k) (amount_at plan k)
    → map arc_of_numbers second ≡ map arc_of_numbers first ++ slab 0 (k - 1) m.routes plan
    → map arc_of_numbers third ≡ map arc_of_numbers second ++ slab k (length m.routes) m.routes plan
    → map arc_of_numbers third ≡ (residual m plan k less).arcs
arcs_are_residual m plan k less first second third a hk long e1 ea e2 e3 =
    let h : suc (k - 1) ≡ k = omega (arith, hk.0) in
    let all = ap (λ j. slab 0 (k - 1) m.routes plan ++ slab j (length m.routes) m.routes plan) (sym h) ∙ slabs_are_others (k - 1) m.routes plan long in
    let one : map arc_of_numbers first ≡ unit_arc less (route_at m k) (amount_at plan k) ∷ [] =
    ap (map arc_of_numbers) e1 ∙ ap (λ b. b ∷ []) ea in
    e3 ∙ ap (λ xs. xs ++ slab k (length m.routes) m.routes plan) (e2 ∙ ap (λ xs. xs ++ slab 0 (k - 1) m.routes plan) one)
    ∙ ap (λ xs. unit_arc less (route_at m k) (amount_at plan k) ∷ xs) all

-- ---- its limits

least_of_costs : (steps : List Step) (c : ℤ) → All (λ s. IsUpTo limits.cost s.cost) steps → IsUpTo limits.cost c → (x : ℤ)
    → IsUpTo limits.cost (charge steps c (x +ℤ pos 1) -ℤ charge steps c x)
least_of_costs [] c small last x = (omega (arith, ints, one_more c x, last), omega (arith, ints, one_more c x, last))
least_of_costs (s ∷ steps) c small last x =
    let here = All-head (λ s. IsUpTo limits.cost s.cost) s steps small in
    by_lt_z x s.most
    (λ less.
    let a = charge_within s steps c x (omega (arith, ints, less)) in
    let b = charge_within s steps c (x +ℤ pos 1) (omega (arith, ints, less)) in
    let e = one_more s.cost x in
    (omega (arith, ints, a, b, e, here), omega (arith, ints, a, b, e, here)))
    (λ more.
    let a = charge_past s steps c x (omega (arith, ints, more)) in
    let b = charge_past s steps c (x +ℤ pos 1) (omega (arith, ints, more)) in
    let e = ap (charge steps c) (let same : (x +ℤ pos 1) -ℤ s.most ≡ (x -ℤ s.most) +ℤ pos 1 = omega (arith, ints) in same) in
    let rest = least_of_costs steps c (All-tail (λ s. IsUpTo limits.cost s.cost) s steps small) last (x -ℤ s.most) in
    (omega (arith, ints, a, b, e, rest), omega (arith, ints, a, b, e, rest)))

shifted_small : (g : Bool) (f : ℤ → ℤ) (y z : ℤ) → z ≡ shifted g y (pos 1) → ((x : ℤ) → IsUpTo limits.cost (f (x +ℤ pos 1) -ℤ f x)) → IsUpTo limits.cost (f z -ℤ f y)
shifted_small true f y z e h = let a = h y in let b = ap f e in (omega (arith, ints, a, b), omega (arith, ints, a, b))
shifted_small false f y z e h =
    let a = h z in
    let back : z +ℤ pos 1 ≡ y = omega (arith, ints, e) in
    let b = ap f back in
    (omega (arith, ints, a, b), omega (arith, ints, a, b))

pub unit_small : (r : Route) (x : ℤ) (less : Bool) → HasSmallCosts r → IsUpTo limits.cost (unit_arc less r x).cost
unit_small r x less h =
    shifted_small (grows r.both less x) (charge r.steps r.last_cost) (charged r.both x) (charged r.both (next less x)) (charged_next r.both less x)
    (λ y. least_of_costs r.steps r.last_cost h.steps h.last y)

-- what a unit arc keeps
record IsUnit (a : Arc) : Type 0 where
  within : IsArcWithinLimits limits a
  light : weight a ≤ limits.cost

cap_of : (t : Bool) → (pos 0 ≤ℤ when t (pos 1)) × IsUpTo limits.bound (when t (pos 1))
cap_of true = (omega (arith, ints), (omega (arith, ints), omega (arith, ints)))
cap_of false = (omega (arith, ints), (omega (arith, ints), omega (arith, ints)))

most_of : (t : Bool) → max (unsigned_abs (pos 0)) (unsigned_abs (when t (pos 1))) ≤ 1
most_of true = omega arith
most_of false = omega arith

is_unit : (r : Route) (x : ℤ) (less : Bool) → HasSmallCosts r → IsUnit (unit_arc less r x)
is_unit r x less h =
    let t = may_carry r (next less x) in
    let small = unit_small r x less h in
    let cap = cap_of t in
    let product : weight (unit_arc less r x) ≤ limits.cost * 1 = mul-le-mul (size_up_to limits.cost (unit_arc less r x).cost small) (most_of t) in
    record {
      within = record { ordered = cap.0; low_small = (omega (arith, ints), omega (arith, ints)); cap_small = cap.1; cost_small = small };
      light = omega (arith, product);
    }

light_sum : (arcs : List Arc) → All IsUnit arcs → sum (map weight arcs) ≤ limits.cost * length arcs
light_sum [] h = omega arith
light_sum (a ∷ arcs) h =
    let here = (All-head IsUnit a arcs h).light in
    omega (arith, here, sum-weights weight a arcs, light_sum arcs (All-tail IsUnit a arcs h))

zeros_small : (n : ℕ) → All (IsUpTo limits.supply) (replicate n (pos 0))
zeros_small zero = λ i d k. absurd (omega (arith, k))
zeros_small (suc n) = All-cons (IsUpTo limits.supply) (pos 0) (replicate n (pos 0)) (omega (arith, ints), omega (arith, ints)) (zeros_small n)

pub residual_well_formed : (m : Model) (prices plan : List ℤ) (k : ℕ) (less : Bool) → IsRouteNumber m k → length m.routes ≡ length plan
    → AreWithinLimits m prices plan → All (HasEnds (node_count (residual m plan k less))) (residual m plan k less).arcs
    → IsWellFormed limits (residual m plan k less)
residual_well_formed m prices plan k less hk long within ends =
    let inside : k - 1 < length m.routes = omega (arith, hk.0, hk.1) in
    let rest = others (k - 1) m.routes plan in
    let probe = unit_arc less (route_at m k) (amount_at plan k) in
    let units : All IsUnit (residual m plan k less).arcs =
    All-cons IsUnit probe rest (is_unit (route_at m k) (amount_at plan k) less (within.costs (k - 1) no_route inside))
    (others_all HasSmallCosts IsUnit (λ r x l h. is_unit r x l h) (k - 1) m.routes plan inside long within.costs) in
    let few = within.routes in
    let count : length (residual m plan k less).arcs ≤ arc_limit = omega (arith, few, others_length (k - 1) m.routes plan inside long) in
    record {
      nodes = let places = within.places in omega (arith, places, length-replicate (length m.supplies) (pos 0));
      arcs = count;
      ends = ends;
      within = record {
        arcs = λ i d h. (units i d h).within;
        supplies = zeros_small (length m.supplies);
        total = let all = light_sum (residual m plan k less).arcs units in omega (arith, all, count);
      };
      assignment = tt;
    }
