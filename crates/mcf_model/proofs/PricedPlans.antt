-- Prices that show a flow show its plan: no amount on a route has less reduced cost.
use Rattle.std.proofs.Common.{◌≡◌, ℕ, zero, suc, Bool, true, false, List, [], ◌∷◌, length, ap, ◌∙◌, arith, ℤ, pos, negsuc, ◌+ℤ◌, ◌-ℤ◌, ◌≤ℤ◌, ◌<ℤ◌}
use Rattle.std.specs.Int.{int_max, int_min}
use Rattle.std.specs.List.{All, AllZip}
use Rattle.std.proofs.Math.IntN.{◌*ℤ◌}
use Rattle.std.proofs.lemmas.Int.{ints, clamps}
use Rattle.std.proofs.lemmas.List.Elements.{All-head, All-tail}
use Rattle.mcf_flows.specs.declared.arc.Arc.{Arc}
use Rattle.mcf_flows.specs.Network.{at_node, flow_sum}
use Rattle.mcf_flows.specs.Flow.{CanCarry, IsComplementary, IsWithinBounds, Shows, cost, reduced_cost}
use Rattle.mcf_flows.proofs.ArcSums.{flow_sum-le_two}
use Rattle.mcf_flows.proofs.IntLaws.{mul-add, mul-anti, mul-mono, mul-sub, mul-zero, sub-mul}
use Rattle.mcf_model.specs.declared.rows.Step.{Step}
use Rattle.mcf_model.specs.Arcs.{added, arcs_of, back, back_length, fill, flow_back, goes, last_cap, plan_of, reach_of, there, way, way_back, way_length}
use Rattle.mcf_model.specs.Model.{IsSoundRoute, MayCarry, Route, charged, room}
use Rattle.mcf_model.specs.Prices.{IsBestAt, ShownFlowsShowPlans, price_drop, reduced_route_cost}
use Rattle.mcf_model.proofs.Plans.{cut, flow_home, flow_there, others}
use Rattle.mcf_model.proofs.Routes.{back_within, carries, filled_carries, filled_cost, length-flow_back, there_within}
use Rattle.mcf_model.proofs.Unlimited.{fits_reach, reach_above_zero, shown_in_any}
use Rattle.mcf_model.proofs.Ways.{length-fill}

-- where an arc is complementary, no other amount within its bounds has a smaller product with the
-- reduced cost
no_smaller : (r low cap f other : ℤ) → (pos 0 <ℤ r → f ≡ low) → (r <ℤ pos 0 → f ≡ cap) → low ≤ℤ other → other ≤ℤ cap → (r *ℤ f) ≤ℤ (r *ℤ other)
no_smaller (pos zero) low cap f other above below l u = omega (arith, ints)
no_smaller (pos (suc n)) low cap f other above below l u =
    let e : f ≡ low = above (omega (arith, ints)) in mul-mono (pos (suc n)) f other (omega (arith, ints)) (omega (arith, ints))
no_smaller (negsuc n) low cap f other above below l u =
    let e : f ≡ cap = below (omega (arith, ints)) in mul-anti (negsuc n) other f (omega (arith, ints)) (omega (arith, ints))

module _ (prices : List ℤ) where
  abbrev reduced_sum : List Arc → List ℤ → ℤ
  reduced_sum arcs flow = flow_sum (λ a f. reduced_cost prices a *ℤ f) arcs flow

  no_less : (arcs : List Arc) (flow other : List ℤ) → Shows arcs prices flow → IsWithinBounds arcs other → reduced_sum arcs flow ≤ℤ reduced_sum arcs other
  no_less arcs flow other shows within =
      flow_sum-le_two (IsComplementary prices) CanCarry (λ a f. reduced_cost prices a *ℤ f) (λ a f. reduced_cost prices a *ℤ f)
      (λ a f h t q. no_smaller (reduced_cost prices a) a.low a.cap f h t.0 t.1 q.0 q.1) arcs flow other shows within

  one_arc : (c s t f : ℤ) → (c -ℤ s +ℤ t) *ℤ f ≡ c *ℤ f -ℤ (s -ℤ t) *ℤ f
  one_arc c s t f =
      let e : c -ℤ s +ℤ t ≡ c -ℤ (s -ℤ t) = omega (arith, ints) in
      ap (λ z. z *ℤ f) e ∙ sub-mul c (s -ℤ t) f

  -- the arcs of a way share their ends
  reduced_way : (tail head : ℕ) (least : ℤ) (steps : List Step) (cap c : ℤ) (flow : List ℤ) → length flow ≡ way_length steps
      → reduced_sum (way tail head least steps cap c) flow ≡ cost (way tail head least steps cap c) flow -ℤ (at_node prices tail -ℤ at_node prices head) *ℤ added flow
  reduced_way tail head least [] cap c [] e = absurd (omega arith)
  reduced_way tail head least [] cap c (f ∷ []) e =
      omega (arith, ints, one_arc c (at_node prices tail) (at_node prices head) f, mul-add (at_node prices tail -ℤ at_node prices head) f (pos 0), mul-zero (at_node prices tail -ℤ at_node prices head))
  reduced_way tail head least [] cap c (f ∷ g ∷ flow) e = absurd (omega arith)
  reduced_way tail head least (s ∷ steps) cap c [] e = absurd (omega arith)
  reduced_way tail head least (s ∷ steps) cap c (f ∷ flow) e =
      omega (
        arith,
        ints,
        one_arc s.cost (at_node prices tail) (at_node prices head) f,
        mul-add (at_node prices tail -ℤ at_node prices head) f (added flow),
        reduced_way tail head (least -ℤ int_min least s.most) steps cap c flow (omega arith),
      )

  turned : (s t x : ℤ) → (t -ℤ s) *ℤ x ≡ pos 0 -ℤ (s -ℤ t) *ℤ x
  turned s t x = omega (arith, ints, sub-mul t s x, sub-mul s t x)

  -- the arcs back join the same ends the other way
  reduced_back : (both : Bool) (tail head : ℕ) (steps : List Step) (cap c : ℤ) (flow : List ℤ) → length flow ≡ back_length both steps
      → reduced_sum (way_back both tail head steps cap c) flow ≡ cost (way_back both tail head steps cap c) flow +ℤ (at_node prices tail -ℤ at_node prices head) *ℤ added flow
  reduced_back false tail head steps cap c [] e = omega (arith, ints, mul-zero (at_node prices tail -ℤ at_node prices head))
  reduced_back false tail head steps cap c (f ∷ flow) e = absurd (omega arith)
  reduced_back true tail head steps cap c flow e =
      omega (arith, ints, reduced_way head tail (pos 0) steps cap c flow e, turned (at_node prices tail) (at_node prices head) (added flow))

  -- ---- one route

  module _ (places : ℕ) (reach : ℤ) (r : Route) (sound : IsSoundRoute places r) (zero_reach : pos 0 ≤ℤ reach) where
    best_here : (f g : List ℤ) (y : ℤ) → length f ≡ way_length r.steps → length g ≡ back_length r.both r.steps
        → IsWithinBounds (there reach r) f → IsWithinBounds (back reach r) g → Shows (there reach r) prices f → Shows (back reach r) prices g
        → MayCarry r y → charged r.both y ≤ℤ room r.steps (last_cap reach r.last_most)
        → reduced_route_cost prices r (added f -ℤ added g) ≤ℤ reduced_route_cost prices r y
    best_here f g y lf lg wf wg sf sg may far =
        let cap = last_cap reach r.last_most in
        let d = price_drop prices r in
        let out = fill r.steps (goes r.both y) in
        let home = flow_back r.both r.steps y in
        let wo = there_within reach r.both r.tail r.head r.least r.steps r.last_most r.last_cost y zero_reach sound.adds sound.may_be_both may.enough far in
        let wh = back_within reach r.both r.tail r.head r.least r.steps r.last_most r.last_cost y zero_reach sound.adds sound.may_be_both far in
        let mine = carries reach r.tail r.head r.least r.steps r.last_most r.last_cost r.both f g sound.rises sound.may_be_both wf wg in
        let e1 = reduced_way r.tail r.head r.least r.steps cap r.last_cost f lf in
        let e2 = reduced_back r.both r.tail r.head r.steps cap r.last_cost g lg in
        let e3 = reduced_way r.tail r.head r.least r.steps cap r.last_cost out (length-fill r.steps (goes r.both y)) in
        let e4 = reduced_back r.both r.tail r.head r.steps cap r.last_cost home (length-flow_back r.both r.steps y) in
        let e5 = filled_cost r.both r.tail r.head r.least r.steps r.last_most cap r.last_cost y sound.may_be_both in
        let e6 : d *ℤ added out -ℤ d *ℤ added home ≡ d *ℤ y = omega (arith, ints, mul-sub d (added out) (added home), ap (λ z. d *ℤ z) (filled_carries r.both r.steps y)) in
        let e7 = mul-sub d (added f) (added g) in
        omega (arith, ints, mine.no_more, e1, e2, e3, e4, e5, e6, e7, no_less (there reach r) f out sf wo, no_less (back reach r) g home sg wh)

  -- ---- all routes

  abbrev IsShownAt : ℤ → List Route → List ℤ → Type 0
  IsShownAt reach routes flow = IsWithinBounds (arcs_of reach routes) flow × Shows (arcs_of reach routes) prices flow

  each_best : (places : ℕ) (reach : ℤ) (routes : List Route) (flow : List ℤ) → All (IsSoundRoute places) routes → pos 0 ≤ℤ reach
      → ((higher : ℤ) → reach ≤ℤ higher → IsShownAt higher routes flow) → AllZip (IsBestAt prices) routes (plan_of routes flow)
  each_best places reach [] flow sound z shown = tt
  each_best places reach (r ∷ routes) flow sound z shown =
      let s = All-head (IsSoundRoute places) r routes sound in
      let first = cut CanCarry reach r routes flow (shown reach (omega (arith, ints))).0 in
      let may = carries reach r.tail r.head r.least r.steps r.last_most r.last_cost r.both (flow_there r flow) (flow_home r flow) s.rises s.may_be_both
      first.on_there first.on_back in (
        record {
          may_carry = record { enough = may.enough; fits = may.fits };
          best = λ y its.
              let higher = int_max reach (charged r.both y -ℤ room r.steps (pos 0)) in
              let more : reach ≤ℤ higher = omega (arith, ints, clamps) in
              let at = shown higher more in
              let bounds = cut CanCarry higher r routes flow at.0 in
              let shows = cut (IsComplementary prices) higher r routes flow at.1 in
              best_here places higher r s (omega (arith, ints, z, more)) (flow_there r flow) (flow_home r flow) y first.there_long first.back_long
              bounds.on_there bounds.on_back shows.on_there shows.on_back its
              (fits_reach higher r.steps r.last_most (charged r.both y) its.fits (omega (arith, ints, clamps)));
        },
        each_best places reach routes (others r flow) (All-tail (IsSoundRoute places) r routes sound) z
            (λ higher more. let at = shown higher more in
            ((cut CanCarry higher r routes flow at.0).on_others, (cut (IsComplementary prices) higher r routes flow at.1).on_others)),
      )

pub shown_flows_show_plans_lem : ShownFlowsShowPlans
shown_flows_show_plans_lem m prices flow sound bounded feasible shows =
    each_best prices (length m.supplies) (reach_of m) m.routes flow sound (reach_above_zero m)
    (λ higher more. let at = shown_in_any m prices flow higher sound bounded feasible shows more in (at.0.within_bounds, at.1))
