-- One unit more or less on each route: what the residual network of a plan says of other plans.
use Rattle.std.proofs.Common.{◌≡◌, ℕ, zero, suc, ◌+◌, ◌*◌, ◌<◌, ◌≤◌, Bool, true, false, eqb, List, [], ◌∷◌, length, set, get_or, ap, sym, ◌∙◌, subst, refl, arith, ℤ, pos, ◌+ℤ◌, ◌-ℤ◌, ◌≤ℤ◌, ◌<ℤ◌, inl, inr}
use Rattle.std.specs.Prelude.{Option, Some, None, ◌⊎◌, ◌&&◌, int_le}
use Rattle.std.specs.List.{All, AllZip}
use Rattle.std.proofs.Math.IntN.{◌*ℤ◌}
use Rattle.std.proofs.lemmas.Int.{ints, by_lt_z}
use Rattle.std.proofs.lemmas.List.Elements.{All-cons, All-head, All-tail}
use Rattle.mcf_flows.specs.declared.arc.Arc.{Arc}
use Rattle.mcf_flows.specs.Flow.{CanCarry, IsComplementary, IsWithinBounds, Shows, cost, net, reduced_cost}
use Rattle.mcf_flows.specs.Network.{flow_sum, when}
use Rattle.mcf_flows.proofs.IntLaws.{at_most, at_most_passes, mul-add, mul-one, mul-sub, mul-zero}
use Rattle.mcf_network.proofs.StateLaws.{when-sub}
use Rattle.mcf_figures.specs.Figures.{fits, may_carry}
use Rattle.mcf_model.specs.declared.rows.Step.{Step}
use Rattle.mcf_model.specs.Model.{Fits, IsSoundRoute, MayCarry, Route, arriving, charged, leaving, plan_sum, room, route_cost}
use Rattle.mcf_model.specs.Prices.{IsBestAt, price_drop, reduced_route_cost}
use Rattle.mcf_plan_ranges.specs.Private.Units.{next, others, still, unit_arc, units}
use Rattle.mcf_plan_ranges.proofs.Convex.{may_between, no_less_above, no_less_below, reduced_convex}

-- ---- the test of what a route may carry

both : (a b : Bool) → (a && b) ≡ true → (a ≡ true) × (b ≡ true)
both true true e = (refl, refl)
both true false e = cc e
both false b e = cc e

it_fits : (steps : List Step) (most : Option ℤ) (x : ℤ) → fits steps most x ≡ true → Fits steps most x
it_fits steps (Some m) x e = at_most x (room steps m) e
it_fits steps None x e = tt

fits_passes : (steps : List Step) (most : Option ℤ) (x : ℤ) → Fits steps most x → fits steps most x ≡ true
fits_passes steps (Some m) x h = at_most_passes x (room steps m) h
fits_passes steps None x h = refl

pub it_may : (r : Route) (x : ℤ) → may_carry r x ≡ true → MayCarry r x
it_may r x e =
    let b = both (int_le r.least (charged r.both x)) (fits r.steps r.last_most (charged r.both x)) e in
    record { enough = at_most r.least (charged r.both x) b.0; fits = it_fits r.steps r.last_most (charged r.both x) b.1 }

pub may_passes : (r : Route) (x : ℤ) → MayCarry r x → may_carry r x ≡ true
may_passes r x m =
    rw (at_most_passes r.least (charged r.both x) m.enough, fits_passes r.steps r.last_most (charged r.both x) m.fits) refl

-- ---- a fact of all unit arcs

module _ (Q : Route → Type 0) (P : Arc → Type 0) (e : (r : Route) (x : ℤ) (less : Bool) → Q r → P (unit_arc less r x)) where
  two : (r : Route) (x : ℤ) (arcs : List Arc) → Q r → All P arcs → All P (unit_arc false r x ∷ unit_arc true r x ∷ arcs)
  two r x arcs here rest =
      All-cons P (unit_arc false r x) (unit_arc true r x ∷ arcs) (e r x false here) (All-cons P (unit_arc true r x) arcs (e r x true here) rest)

  units_all : (routes : List Route) (plan : List ℤ) → All Q routes → All P (units routes plan)
  units_all [] plan h = λ i d k. absurd (omega (arith, k))
  units_all (r ∷ routes) [] h = λ i d k. absurd (omega (arith, k))
  units_all (r ∷ routes) (x ∷ plan) h = two r x (units routes plan) (All-head Q r routes h) (units_all routes plan (All-tail Q r routes h))

  pub others_all : (i : ℕ) (routes : List Route) (plan : List ℤ) → i < length routes → length routes ≡ length plan → All Q routes → All P (others i routes plan)
  others_all i [] plan k long h = absurd (omega arith)
  others_all i (r ∷ routes) [] k long h = absurd (omega arith)
  others_all zero (r ∷ routes) (x ∷ plan) k long h = units_all routes plan (All-tail Q r routes h)
  others_all (suc i) (r ∷ routes) (x ∷ plan) k long h =
      two r x (others i routes plan) (All-head Q r routes h) (others_all i routes plan (omega arith) (omega arith) (All-tail Q r routes h))

units_length : (routes : List Route) (plan : List ℤ) → length (units routes plan) ≤ 2 * length routes
units_length [] plan = omega arith
units_length (r ∷ routes) [] = omega arith
units_length (r ∷ routes) (x ∷ plan) = omega (arith, units_length routes plan)

pub others_length : (i : ℕ) (routes : List Route) (plan : List ℤ) → i < length routes → length routes ≡ length plan → length (others i routes plan) + 1 ≤ 2 * length routes
others_length i [] plan k long = absurd (omega arith)
others_length i (r ∷ routes) [] k long = absurd (omega arith)
others_length zero (r ∷ routes) (x ∷ plan) k long = omega (arith, units_length routes plan)
others_length (suc i) (r ∷ routes) (x ∷ plan) k long = omega (arith, others_length i routes plan (omega arith) (omega arith))

-- ---- prices

-- the reduced cost of a unit's arc is the difference of the route's reduced costs
module _ (q : List ℤ) (r : Route) (x : ℤ) where
  drop_more : (d : ℤ) → d *ℤ (x +ℤ pos 1) ≡ d *ℤ x +ℤ d
  drop_more d = omega (arith, ints, mul-add d x (pos 1), mul-one d)

  drop_less : (d : ℤ) → d *ℤ (x -ℤ pos 1) ≡ d *ℤ x -ℤ d
  drop_less d = omega (arith, ints, mul-sub d x (pos 1), mul-one d)

  pub unit_reduced : (less : Bool) → reduced_cost q (unit_arc less r x) ≡ reduced_route_cost q r (next less x) -ℤ reduced_route_cost q r x
  unit_reduced false = omega (arith, ints, drop_more (price_drop q r))
  unit_reduced true = omega (arith, ints, drop_less (price_drop q r))

-- where it may carry the unit, prices that show the arc without flow say that it costs no less
pub shown_costs : (q : List ℤ) (a : Arc) (t : Bool) → a.cap ≡ when t (pos 1) → IsComplementary q a (pos 0) → t ≡ true → pos 0 ≤ℤ reduced_cost q a
shown_costs q a t cap shown may =
    by_lt_z (reduced_cost q a) (pos 0)
    (λ less. let full : pos 0 ≡ a.cap = shown.1 less in let one = cap ∙ ap (λ b. when b (pos 1)) may in absurd (omega (arith, ints, full, one)))
    (λ more. more)

pub next_no_less : (q : List ℤ) (r : Route) (x : ℤ) (less : Bool) → IsComplementary q (unit_arc less r x) (pos 0) → MayCarry r (next less x)
    → reduced_route_cost q r x ≤ℤ reduced_route_cost q r (next less x)
next_no_less q r x less shown may =
    let c = shown_costs q (unit_arc less r x) (may_carry r (next less x)) refl shown (may_passes r (next less x) may) in
    omega (arith, ints, c, unit_reduced q r x less)

-- the other way round
pub shown_unit : (q : List ℤ) (r : Route) (x : ℤ) (less : Bool) → IsBestAt q r x → IsComplementary q (unit_arc less r x) (pos 0)
shown_unit q r x less best = ((λ more. refl), (λ below. go (may_carry r (next less x)) refl below))
  where
    go : (t : Bool) → may_carry r (next less x) ≡ t → reduced_cost q (unit_arc less r x) <ℤ pos 0 → pos 0 ≡ when (may_carry r (next less x)) (pos 1)
    go true e below =
        let le = best.best (next less x) (it_may r (next less x) e) in
        absurd (omega (arith, ints, le, below, unit_reduced q r x less))
    go false e below = rw e refl

pub shown_units : (q : List ℤ) (routes : List Route) (plan : List ℤ) → AllZip (IsBestAt q) routes plan → Shows (units routes plan) q (still (units routes plan))
shown_units q [] plan best = tt
shown_units q (r ∷ routes) [] best = absurd best
shown_units q (r ∷ routes) (x ∷ plan) best =
    (shown_unit q r x false best.0, (shown_unit q r x true best.0, shown_units q routes plan best.1))

pub shown_others : (q : List ℤ) (i : ℕ) (routes : List Route) (plan : List ℤ) → i < length routes → AllZip (IsBestAt q) routes plan
    → Shows (others i routes plan) q (still (others i routes plan))
shown_others q i [] plan h best = absurd (omega arith)
shown_others q i (r ∷ routes) [] h best = absurd best
shown_others q zero (r ∷ routes) (x ∷ plan) h best = shown_units q routes plan best.1
shown_others q (suc i) (r ∷ routes) (x ∷ plan) h best =
    (shown_unit q r x false best.0, (shown_unit q r x true best.0, shown_others q i routes plan (omega arith) best.1))

-- ---- no amount has less reduced cost

-- on a route whose unit arcs are shown without flow
no_less_here : (q : List ℤ) (places : ℕ) (r : Route) (x y : ℤ) → IsSoundRoute places r → MayCarry r x → MayCarry r y
    → IsComplementary q (unit_arc false r x) (pos 0) → IsComplementary q (unit_arc true r x) (pos 0)
    → reduced_route_cost q r x ≤ℤ reduced_route_cost q r y
no_less_here q places r x y sound mx my more less =
    by_lt_z x y
    (λ above. no_less_above (reduced_route_cost q r) (reduced_convex q places r sound) x y (omega (arith, ints, above))
    (λ h. next_no_less q r x false more (may_between places r x (x +ℤ pos 1) y sound (omega (arith, ints)) (omega (arith, ints, h)) mx my)))
    (λ below. no_less_below (reduced_route_cost q r) (reduced_convex q places r sound) x y below
    (λ h. next_no_less q r x true less (may_between places r y (x -ℤ pos 1) x sound (omega (arith, ints, h)) (omega (arith, ints)) my mx)))

module _ (q : List ℤ) (places : ℕ) where
  units_no_less : (routes : List Route) (plan other : List ℤ) → All (IsSoundRoute places) routes → AllZip MayCarry routes plan → AllZip MayCarry routes other
      → Shows (units routes plan) q (still (units routes plan))
      → plan_sum (reduced_route_cost q) routes plan ≤ℤ plan_sum (reduced_route_cost q) routes other
  units_no_less [] plan other sound may its shown = omega (arith, ints)
  units_no_less (r ∷ routes) [] other sound may its shown = absurd may
  units_no_less (r ∷ routes) (x ∷ plan) [] sound may its shown = absurd its
  units_no_less (r ∷ routes) (x ∷ plan) (y ∷ other) sound may its shown =
      let here = no_less_here q places r x y (All-head (IsSoundRoute places) r routes sound) may.0 its.0 shown.0 shown.1.0 in
      let rest = units_no_less routes plan other (All-tail (IsSoundRoute places) r routes sound) may.1 its.1 shown.1.1 in
      omega (arith, ints, here, rest)

  -- all routes but one, which has become s
  pub others_no_less : (i : ℕ) (s : Route) (routes : List Route) (plan other : List ℤ) → i < length routes → All (IsSoundRoute places) routes
      → AllZip MayCarry routes plan → AllZip MayCarry routes other → Shows (others i routes plan) q (still (others i routes plan))
      → reduced_route_cost q s (get_or plan i (pos 0)) ≤ℤ reduced_route_cost q s (get_or other i (pos 0))
      → plan_sum (reduced_route_cost q) (set routes i s) plan ≤ℤ plan_sum (reduced_route_cost q) (set routes i s) other
  others_no_less i s [] plan other h sound may its shown le = absurd (omega arith)
  others_no_less i s (r ∷ routes) [] other h sound may its shown le = absurd may
  others_no_less i s (r ∷ routes) (x ∷ plan) [] h sound may its shown le = absurd its
  others_no_less zero s (r ∷ routes) (x ∷ plan) (y ∷ other) h sound may its shown le =
      let rest = units_no_less routes plan other (All-tail (IsSoundRoute places) r routes sound) may.1 its.1 shown in
      omega (arith, ints, le, rest)
  others_no_less (suc i) s (r ∷ routes) (x ∷ plan) (y ∷ other) h sound may its shown le =
      let here = no_less_here q places r x y (All-head (IsSoundRoute places) r routes sound) may.0 its.0 shown.0 shown.1.0 in
      let rest = others_no_less i s routes plan other (omega arith) (All-tail (IsSoundRoute places) r routes sound) may.1 its.1 shown.1.1 le in
      omega (arith, ints, here, rest)

-- ---- flows of the residual network

pub none_flows : (a : Arc) → a.low ≡ pos 0 → (t : Bool) → a.cap ≡ when t (pos 1) → CanCarry a (pos 0)
none_flows a low true cap = (omega (arith, ints, low), omega (arith, ints, cap))
none_flows a low false cap = (omega (arith, ints, low), omega (arith, ints, cap))

units_still : (routes : List Route) (plan : List ℤ) → IsWithinBounds (units routes plan) (still (units routes plan))
units_still [] plan = tt
units_still (r ∷ routes) [] = tt
units_still (r ∷ routes) (x ∷ plan) = (
  none_flows (unit_arc false r x) refl (may_carry r (x +ℤ pos 1)) refl,
  (none_flows (unit_arc true r x) refl (may_carry r (x -ℤ pos 1)) refl, units_still routes plan),
)

pub others_still : (i : ℕ) (routes : List Route) (plan : List ℤ) → i < length routes → length routes ≡ length plan → IsWithinBounds (others i routes plan) (still (others i routes plan))
others_still i [] plan h e = absurd (omega arith)
others_still i (r ∷ routes) [] h e = absurd (omega arith)
others_still zero (r ∷ routes) (x ∷ plan) h e = units_still routes plan
others_still (suc i) (r ∷ routes) (x ∷ plan) h e = (
  none_flows (unit_arc false r x) refl (may_carry r (x +ℤ pos 1)) refl,
  (none_flows (unit_arc true r x) refl (may_carry r (x -ℤ pos 1)) refl, others_still i routes plan (omega arith) (omega arith)),
)

-- a sum over no flow
pub still_sum : (t : Arc → ℤ → ℤ) → ((a : Arc) → t a (pos 0) ≡ pos 0) → (arcs : List Arc) → flow_sum t arcs (still arcs) ≡ pos 0
still_sum t e [] = refl
still_sum t e (a ∷ arcs) = omega (arith, ints, e a, still_sum t e arcs)

-- a unit arc carries nothing, or a unit that the route may carry
pub unit_flow : (t : Bool) (f : ℤ) → pos 0 ≤ℤ f → f ≤ℤ when t (pos 1) → (f ≡ pos 0) ⊎ ((f ≡ pos 1) × (t ≡ true))
unit_flow true f low high = by_lt_z f (pos 1) (λ less. inl (omega (arith, ints, low, less))) (λ more. inr (omega (arith, ints, high, more), refl))
unit_flow false f low high = inl (omega (arith, ints, low, high))

-- what is left of a route's amount after a flow on its arcs
record IsMoved (r : Route) (x f b : ℤ) : Type 0 where
  may : MayCarry r (x +ℤ f -ℤ b)
  costs : route_cost r (x +ℤ f -ℤ b) ≤ℤ (route_cost r x +ℤ ((route_cost r (x +ℤ pos 1) -ℤ route_cost r x) *ℤ f +ℤ (route_cost r (x -ℤ pos 1) -ℤ route_cost r x) *ℤ b))

moved_to : (r : Route) (x f b y p m : ℤ) → x +ℤ f -ℤ b ≡ y → MayCarry r y → (route_cost r (x +ℤ pos 1) -ℤ route_cost r x) *ℤ f ≡ p
    → (route_cost r (x -ℤ pos 1) -ℤ route_cost r x) *ℤ b ≡ m → route_cost r y ≤ℤ (route_cost r x +ℤ (p +ℤ m)) → IsMoved r x f b
moved_to r x f b y p m e may ep em le =
    record { may = subst (MayCarry r) (sym e) may; costs = omega (arith, ints, ap (route_cost r) e, ep, em, le) }

module _ (places : ℕ) (r : Route) (x : ℤ) (sound : IsSoundRoute places r) (may : MayCarry r x) where
  abbrev up_cost : ℤ
  up_cost = route_cost r (x +ℤ pos 1) -ℤ route_cost r x

  abbrev down_cost : ℤ
  down_cost = route_cost r (x -ℤ pos 1) -ℤ route_cost r x

  round : route_cost r x ≤ℤ (route_cost r x +ℤ (up_cost +ℤ down_cost))
  round =
      let c = reduced_convex [] places r sound (x -ℤ pos 1) x (x +ℤ pos 1) (omega (arith, ints)) refl in
      let d = price_drop [] r in
      let a = drop_more [] r x d in
      let b = drop_less [] r x d in
      omega (arith, ints, c, a, b)

  none : (c f : ℤ) → f ≡ pos 0 → c *ℤ f ≡ pos 0
  none c f e = ap (λ z. c *ℤ z) e ∙ mul-zero c

  one : (c f : ℤ) → f ≡ pos 1 → c *ℤ f ≡ c
  one c f e = ap (λ z. c *ℤ z) e ∙ mul-one c

  is_moved : (f b : ℤ) → CanCarry (unit_arc false r x) f → CanCarry (unit_arc true r x) b → IsMoved r x f b
  is_moved f b cf cb =
      elim (unit_flow (may_carry r (x +ℤ pos 1)) f cf.0 cf.1) [
        | inl ef ↦
            elim (unit_flow (may_carry r (x -ℤ pos 1)) b cb.0 cb.1) [
              | inl eb ↦ moved_to r x f b x (pos 0) (pos 0) (omega (arith, ints, ef, eb)) may (none up_cost f ef) (none down_cost b eb) (omega (arith, ints))
              | inr (eb, t) ↦
                  moved_to r x f b (x -ℤ pos 1) (pos 0) down_cost (omega (arith, ints, ef, eb)) (it_may r (x -ℤ pos 1) t) (none up_cost f ef) (one down_cost b eb)
                  (omega (arith, ints))
            ]
        | inr (ef, t) ↦
            elim (unit_flow (may_carry r (x -ℤ pos 1)) b cb.0 cb.1) [
              | inl eb ↦
                  moved_to r x f b (x +ℤ pos 1) up_cost (pos 0) (omega (arith, ints, ef, eb)) (it_may r (x +ℤ pos 1) t) (one up_cost f ef) (none down_cost b eb)
                  (omega (arith, ints))
              | inr (eb, u) ↦ moved_to r x f b x up_cost down_cost (omega (arith, ints, ef, eb)) may (one up_cost f ef) (one down_cost b eb) round
            ]
      ]

-- the plan after a flow on the arcs of all routes
abbrev pub moved : List ℤ → List ℤ → List ℤ
moved [] flow = []
moved (x ∷ plan) [] = x ∷ plan
moved (x ∷ plan) (f ∷ []) = x ∷ plan
moved (x ∷ plan) (f ∷ b ∷ flow) = (x +ℤ f -ℤ b) ∷ moved plan flow

-- on those of all routes but one, which carries w
abbrev pub moved_others : ℕ → ℤ → List ℤ → List ℤ → List ℤ
moved_others i w [] flow = []
moved_others zero w (x ∷ plan) flow = w ∷ moved plan flow
moved_others (suc i) w (x ∷ plan) [] = x ∷ plan
moved_others (suc i) w (x ∷ plan) (f ∷ []) = x ∷ plan
moved_others (suc i) w (x ∷ plan) (f ∷ b ∷ flow) = (x +ℤ f -ℤ b) ∷ moved_others i w plan flow

-- what leaves a place, less what comes to it
abbrev pub balance : List Route → List ℤ → ℕ → ℤ
balance routes plan v = leaving routes plan v -ℤ arriving routes plan v

-- a plan after a flow, beside the plan before; `extra` and `turned` are of the route that has
-- become another
pub record IsPlanMoved (routes : List Route) (plan other : List ℤ) (arcs : List Arc) (flow : List ℤ) (extra : ℤ) (turned : ℕ → ℤ) : Type 0 where
  pub may : AllZip MayCarry routes other
  pub costs : plan_sum route_cost routes other ≤ℤ (plan_sum route_cost routes plan +ℤ (extra +ℤ cost arcs flow))
  pub nets : (v : ℕ) → balance routes other v ≡ balance routes plan v +ℤ (turned v +ℤ net arcs flow v)

-- what a route's own flow does at a place
here_nets : (a b : Bool) (x f g : ℤ) → when a (x +ℤ f -ℤ g) ≡ when a x +ℤ when a f -ℤ when a g
here_nets true b x f g = refl
here_nets false b x f g = refl

module _ (places : ℕ) where
  one_more_moved : (r : Route) (routes : List Route) (x : ℤ) (plan other : List ℤ) (f b : ℤ) (arcs : List Arc) (flow : List ℤ) (extra : ℤ) (turned : ℕ → ℤ)
      → IsMoved r x f b → IsPlanMoved routes plan other arcs flow extra turned
      → IsPlanMoved (r ∷ routes) (x ∷ plan) ((x +ℤ f -ℤ b) ∷ other) (unit_arc false r x ∷ unit_arc true r x ∷ arcs) (f ∷ b ∷ flow) extra turned
  one_more_moved r routes x plan other f b arcs flow extra turned here rest =
      let c = here.costs in
      let d = rest.costs in
      record {
        may = (here.may, rest.may);
        costs = omega (arith, ints, c, d);
        nets = λ v.
            let n = rest.nets v in
            let t = eqb r.tail v in
            let h = eqb r.head v in
            omega (arith, ints, n, here_nets t h x f b, here_nets h t x f b);
      }

  units_moved : (routes : List Route) (plan flow : List ℤ) → All (IsSoundRoute places) routes → AllZip MayCarry routes plan
      → IsWithinBounds (units routes plan) flow → IsPlanMoved routes plan (moved plan flow) (units routes plan) flow (pos 0) (λ v. pos 0)
  units_moved [] [] [] sound may within = record { may = tt; costs = omega (arith, ints); nets = λ v. omega (arith, ints) }
  units_moved [] [] (f ∷ flow) sound may within = absurd within
  units_moved [] (x ∷ plan) flow sound may within = absurd may
  units_moved (r ∷ routes) [] flow sound may within = absurd may
  units_moved (r ∷ routes) (x ∷ plan) [] sound may within = absurd within
  units_moved (r ∷ routes) (x ∷ plan) (f ∷ []) sound may within = absurd within.1
  units_moved (r ∷ routes) (x ∷ plan) (f ∷ b ∷ flow) sound may within =
      one_more_moved r routes x plan (moved plan flow) f b (units routes plan) flow (pos 0) (λ v. pos 0)
      (is_moved places r x (All-head (IsSoundRoute places) r routes sound) may.0 f b within.0 within.1.0)
      (units_moved routes plan flow (All-tail (IsSoundRoute places) r routes sound) may.1 within.1.1)

  -- one route has become s, and carries w
  pub others_moved : (i : ℕ) (s : Route) (w c : ℤ) (routes : List Route) (plan flow : List ℤ) → i < length routes → All (IsSoundRoute places) routes
      → AllZip MayCarry routes plan → IsWithinBounds (others i routes plan) flow → MayCarry s w
      → route_cost s w ≤ℤ (route_cost s (get_or plan i (pos 0)) +ℤ c)
      → IsPlanMoved (set routes i s) plan (moved_others i w plan flow) (others i routes plan) flow c
      (λ v. when (eqb s.tail v) (w -ℤ get_or plan i (pos 0)) -ℤ when (eqb s.head v) (w -ℤ get_or plan i (pos 0)))
  others_moved i s w c [] plan flow h sound may within ms le = absurd (omega arith)
  others_moved i s w c (r ∷ routes) [] flow h sound may within ms le = absurd may
  others_moved zero s w c (r ∷ routes) (x ∷ plan) flow h sound may within ms le =
      let rest = units_moved routes plan flow (All-tail (IsSoundRoute places) r routes sound) may.1 within in
      let d = rest.costs in
      record {
        may = (ms, rest.may);
        costs = omega (arith, ints, le, d);
        nets = λ v.
            let n = rest.nets v in
            omega (arith, ints, n, when-sub (eqb s.tail v) w x, when-sub (eqb s.head v) w x);
      }
  others_moved (suc i) s w c (r ∷ routes) (x ∷ plan) [] h sound may within ms le = absurd within
  others_moved (suc i) s w c (r ∷ routes) (x ∷ plan) (f ∷ []) h sound may within ms le = absurd within.1
  others_moved (suc i) s w c (r ∷ routes) (x ∷ plan) (f ∷ b ∷ flow) h sound may within ms le =
      one_more_moved r (set routes i s) x plan (moved_others i w plan flow) f b (others i routes plan) flow c
      (λ v. when (eqb s.tail v) (w -ℤ get_or plan i (pos 0)) -ℤ when (eqb s.head v) (w -ℤ get_or plan i (pos 0)))
      (is_moved places r x (All-head (IsSoundRoute places) r routes sound) may.0 f b within.0 within.1.0)
      (others_moved i s w c routes plan flow (omega arith) (All-tail (IsSoundRoute places) r routes sound) may.1 within.1.1 ms le)
