-- What the prices say holds for so many units just where amounts of the spans move them.
use Rattle.std.proofs.Common.{◌≡◌, ℕ, List, [], ◌∷◌, length, map, refl, ap, sym, ◌∙◌, subst, arith, ℤ, pos, ◌+ℤ◌, ◌-ℤ◌, ◌≤ℤ◌}
use Rattle.std.specs.List.{All, AllZip}
use Rattle.std.proofs.Math.IntN.{◌*ℤ◌}
use Rattle.std.proofs.lemmas.Int.{ints}
use Rattle.std.proofs.lemmas.List.Elements.{All-cons, All-head, All-tail}
use Rattle.mcf_flows.specs.Network.{IsNode, at_node}
use Rattle.mcf_flows.proofs.AllZips.{AllZip-weaken}
use Rattle.mcf_flows.proofs.IntLaws.{mul-add, mul-sub, mul-zero, one-mul}
use Rattle.mcf_model.specs.Model.{IsPlan, IsSound, IsSoundRoute, MayCarry, Model, Route, arriving, leaving, plan_cost, plan_sum}
use Rattle.mcf_model.specs.Prices.{IsBestAt, reduced_route_cost}
use Rattle.mcf_model.specs.Scaling.{scaled, scaled_route}
use Rattle.mcf_figures.specs.FigureLaws.{IsPriced}
use Rattle.mcf_figures.proofs.PlanSums.{have_places, plan_sum-le, reduced_total, worth}
use Rattle.mcf_unit_ranges.specs.Changes.{with_units}
use Rattle.mcf_unit_ranges.specs.Spans.{span}
use Rattle.mcf_unit_ranges.specs.UnitRanges.{HoldsFor, UnitsCostNoLess, told_cost}
use Rattle.mcf_unit_ranges.proofs.FinerSpans.{best_finer, has_finer, may_finer, reduced_finer, route_finer, span_finer}
use Rattle.mcf_unit_ranges.proofs.SpanLaws.{has_best, of_span, span_amount, to_span}
use Rattle.mcf_unit_ranges.proofs.SpanPlans.{amounts, amounts_twice, net, net_amounts, net_is, zip_unmap}
use Rattle.mcf_unit_ranges.proofs.Supplies.{as_long_finer, finer_supply, finer_worth, unit_at}

-- ---- lists of routes

-- a plan of no greater reduced cost than one of least reduced cost is of least reduced cost
each_best : (prices : List ℤ) (routes : List Route) (plan other : List ℤ) → AllZip (IsBestAt prices) routes plan → AllZip MayCarry routes other
    → plan_sum (reduced_route_cost prices) routes other ≤ℤ plan_sum (reduced_route_cost prices) routes plan → AllZip (IsBestAt prices) routes other
each_best prices [] plan [] h k le = tt
each_best prices [] plan (y ∷ other) h k le = absurd k
each_best prices (r ∷ routes) [] other h k le = absurd h
each_best prices (r ∷ routes) (x ∷ plan) [] h k le = absurd k
each_best prices (r ∷ routes) (x ∷ plan) (y ∷ other) h k le =
    let here = (h.0).best y k.0 in
    let rest = plan_sum-le (IsBestAt prices) MayCarry (reduced_route_cost prices) (reduced_route_cost prices) (λ r x y b q. b.best y q) routes plan other h.1 k.1 in (
      record { may_carry = k.0; best = λ w may. let b = (h.0).best w may in omega (arith, ints, b, rest, le) },
      each_best prices routes plan other h.1 k.1 (omega (arith, ints, le, here)),
    )

module _ (prices : List ℤ) (n : ℕ) (k : ℤ) (k1 : pos 1 ≤ℤ k) where
  k0 : pos 0 ≤ℤ k
  k0 = omega (arith, ints, k1)

  all_finer : (routes : List Route) → All (IsSoundRoute n) routes → All (IsSoundRoute n) (map (scaled_route k) routes)
  all_finer [] h = λ i d x. absurd (omega arith)
  all_finer (r ∷ routes) h =
      All-cons (IsSoundRoute n) (scaled_route k r) (map (scaled_route k) routes) (route_finer k k0 n r (All-head (IsSoundRoute n) r routes h))
      (all_finer routes (All-tail (IsSoundRoute n) r routes h))

  bests_finer : (routes : List Route) (plan : List ℤ) → All (IsSoundRoute n) routes → AllZip (IsBestAt prices) routes plan
      → AllZip (IsBestAt prices) (map (scaled_route k) routes) (map (λ x. k *ℤ x) plan)
  bests_finer [] [] s h = tt
  bests_finer [] (x ∷ plan) s h = absurd h
  bests_finer (r ∷ routes) [] s h = absurd h
  bests_finer (r ∷ routes) (x ∷ plan) s h =
      (best_finer k k0 n prices r x (All-head (IsSoundRoute n) r routes s) h.0, bests_finer routes plan (All-tail (IsSoundRoute n) r routes s) h.1)

  total_finer : (routes : List Route) (plan : List ℤ) → AllZip (IsBestAt prices) routes plan
      → plan_sum (reduced_route_cost prices) (map (scaled_route k) routes) (map (λ x. k *ℤ x) plan) ≡ k *ℤ plan_sum (reduced_route_cost prices) routes plan
  total_finer [] [] h = sym (mul-zero k)
  total_finer [] (x ∷ plan) h = absurd h
  total_finer (r ∷ routes) [] h = absurd h
  total_finer (r ∷ routes) (x ∷ plan) h =
      omega (
        arith,
        ints,
        reduced_finer k k0 prices r x,
        total_finer routes plan h.1,
        mul-add k (reduced_route_cost prices r x) (plan_sum (reduced_route_cost prices) routes plan),
      )

  -- amounts of least reduced cost are those that the spans carry
  abbrev Spans : Route → ℤ → Type 0
  Spans r z = MayCarry (scaled_route k (span prices r)) z

  spans_to : (routes : List Route) (plan : List ℤ) → All (IsSoundRoute n) routes → AllZip (IsBestAt prices) (map (scaled_route k) routes) plan
      → AllZip Spans routes (amounts prices routes plan)
  spans_to [] [] s h = tt
  spans_to [] (x ∷ plan) s h = absurd h
  spans_to (r ∷ routes) [] s h = absurd h
  spans_to (r ∷ routes) (x ∷ plan) s h =
      let sound = route_finer k k0 n r (All-head (IsSoundRoute n) r routes s) in (
        subst (λ q. MayCarry q (span_amount prices r x)) (span_finer k k0 prices r) (to_span n prices (scaled_route k r) sound x h.0),
        spans_to routes plan (All-tail (IsSoundRoute n) r routes s) h.1,
      )

  spans_from : (routes : List Route) (plan zs : List ℤ) → All (IsSoundRoute n) routes → AllZip (IsBestAt prices) routes plan → AllZip Spans routes zs
      → AllZip (IsBestAt prices) (map (scaled_route k) routes) (amounts prices routes zs)
  spans_from [] plan zs s h it = tt
  spans_from (r ∷ routes) [] zs s h it = absurd h
  spans_from (r ∷ routes) (x ∷ plan) [] s h it = absurd it
  spans_from (r ∷ routes) (x ∷ plan) (y ∷ zs) s h it =
      let here = All-head (IsSoundRoute n) r routes s in
      let sound = route_finer k k0 n r here in
      let may : MayCarry (span prices (scaled_route k r)) y = subst (λ q. MayCarry q y) (sym (span_finer k k0 prices r)) it.0 in (
        of_span n prices (scaled_route k r) sound (has_finer k k0 prices r (has_best n prices r here x h.0)) y may,
        spans_from routes plan zs (All-tail (IsSoundRoute n) r routes s) h.1 it.1,
      )

-- ---- a model

module _ (m : Model) (prices plan : List ℤ) (u w : ℕ) (sound : IsSound m) (priced : IsPriced m prices plan) (hu : IsNode (length m.supplies) u)
    (hw : IsNode (length m.supplies) w) where
  abbrev n : ℕ
  n = length m.supplies

  abbrev gap : ℤ
  gap = at_node prices u -ℤ at_node prices w

  -- amounts of spans in units k times as fine, which move d units from u to w
  pub record IsSpanned (k d : ℤ) (zs : List ℤ) : Type 0 where
    pub may : AllZip (λ r z. MayCarry (scaled_route k (span prices r)) z) m.routes zs
    pub meets : (v : ℕ) → IsNode n v → net (span prices) m.routes zs v ≡ k *ℤ (at_node m.supplies v +ℤ d *ℤ unit_at u w v)

  module _ (k d : ℤ) (k1 : pos 1 ≤ℤ k) where
    abbrev fine : List Route
    fine = map (scaled_route k) m.routes

    abbrev units : Model
    units = scaled k (with_units m u w d)

    node_there : (v : ℕ) → IsNode n v → IsNode (length units.supplies) v
    node_there v h = (h.0, omega (arith, h.1, as_long_finer m u w d hu hw k))

    node_here : (v : ℕ) → IsNode (length units.supplies) v → IsNode n v
    node_here v h = (h.0, omega (arith, h.1, as_long_finer m u w d hu hw k))

    -- the reduced costs of a plan are its cost, less that which the prices say, more than those of
    -- the least plan
    costs : (other : List ℤ) → ((v : ℕ) → IsNode n v → leaving fine other v -ℤ arriving fine other v ≡ at_node units.supplies v)
        → plan_sum (reduced_route_cost prices) fine other
        ≡ plan_cost units other -ℤ k *ℤ told_cost m prices plan u w d +ℤ plan_sum (reduced_route_cost prices) fine (map (λ x. k *ℤ x) plan)
    costs other meets =
        let places = have_places n fine (all_finer prices n k k1 m.routes sound) in
        let its = reduced_total n units.supplies prices fine other places meets in
        let mine = reduced_total n m.supplies prices m.routes plan (have_places n m.routes sound) priced.is_plan.meets_supplies in
        let finer = total_finer prices n k k1 m.routes plan priced.shown in
        let W = worth prices m.supplies n in
        let C = plan_cost m plan in
        let scaled_mine = ap (λ z. k *ℤ z) mine in
        omega (
          arith,
          ints,
          its,
          scaled_mine,
          finer,
          finer_worth m u w d hu hw k prices,
          mul-sub k C W,
          mul-add k W (d *ℤ gap),
          mul-add k C (d *ℤ gap),
        )

    bests : AllZip (IsBestAt prices) fine (map (λ x. k *ℤ x) plan)
    bests = bests_finer prices n k k1 m.routes plan sound priced.shown

    pub no_less : (other : List ℤ) → IsPlan units other → (k *ℤ told_cost m prices plan u w d) ≤ℤ plan_cost units other
    no_less other is =
        let meets : (v : ℕ) → IsNode n v → leaving fine other v -ℤ arriving fine other v ≡ at_node units.supplies v = λ v h. is.meets_supplies v (node_there v h) in
        let le = plan_sum-le (IsBestAt prices) MayCarry (reduced_route_cost prices) (reduced_route_cost prices) (λ r x y b q. b.best y q) fine (map (λ x. k *ℤ x) plan) other bests is.may_carry in
        omega (arith, ints, le, costs other meets)

    -- a plan of just the cost that the prices say is made of amounts of the spans
    pub spanned_to : (other : List ℤ) → IsPlan units other → plan_cost units other ≡ k *ℤ told_cost m prices plan u w d → IsSpanned k d (amounts prices m.routes other)
    spanned_to other is same =
        let meets : (v : ℕ) → IsNode n v → leaving fine other v -ℤ arriving fine other v ≡ at_node units.supplies v = λ v h. is.meets_supplies v (node_there v h) in
        let best = each_best prices fine (map (λ x. k *ℤ x) plan) other bests is.may_carry (omega (arith, ints, costs other meets, same)) in
        record {
          may = spans_to prices n k k1 m.routes other sound best;
          meets = λ v h. net_amounts prices m.routes (amounts prices m.routes other) v
              ∙ ap (λ xs. net (λ r. r) m.routes xs v) (amounts_twice (λ r x. IsBestAt prices (scaled_route k r) x) prices m.routes other (zip_unmap (IsBestAt prices) (scaled_route k) m.routes other best))
              ∙ sym (net_is (scaled_route k) m.routes other v) ∙ meets v h ∙ finer_supply m u w d hu hw k v h;
        }

    -- and such amounts make such a plan
    pub spanned_from : (zs : List ℤ) → IsSpanned k d zs → HoldsFor m prices plan u w d
    spanned_from zs it =
        let other = amounts prices m.routes zs in
        let best = spans_from prices n k k1 m.routes plan zs sound priced.shown it.may in
        let may = AllZip-weaken (IsBestAt prices) MayCarry (λ r x b. b.may_carry) fine other best in
        let meets : (v : ℕ) → IsNode n v → leaving fine other v -ℤ arriving fine other v ≡ at_node units.supplies v =
        λ v h. net_is (scaled_route k) m.routes other v ∙ sym (net_amounts prices m.routes zs v) ∙ it.meets v h ∙ sym (finer_supply m u w d hu hw k v h) in
        let may_best : AllZip MayCarry fine (map (λ x. k *ℤ x) plan) = AllZip-weaken (IsBestAt prices) MayCarry (λ r x b. b.may_carry) fine (map (λ x. k *ℤ x) plan) bests in
        let up = plan_sum-le (IsBestAt prices) MayCarry (reduced_route_cost prices) (reduced_route_cost prices) (λ r x y b q. b.best y q) fine (map (λ x. k *ℤ x) plan) other bests may in
        let down = plan_sum-le (IsBestAt prices) MayCarry (reduced_route_cost prices) (reduced_route_cost prices) (λ r x y b q. b.best y q) fine other (map (λ x. k *ℤ x) plan) best may_best in
        record {
          finer = k;
          is_finer = k1;
          reached = record {
            plan = other;
            is_plan = record { may_carry = may; meets_supplies = λ v h. meets v (node_here v h) };
            cost_is = omega (arith, ints, costs other meets, up, down);
          };
        }

  -- the least plan moves no unit
  pub spanned_here : IsSpanned (pos 1) (pos 0) (amounts prices m.routes plan)
  spanned_here =
      record {
        may = ones m.routes plan sound priced.shown;
        meets = λ v h. net_amounts prices m.routes (amounts prices m.routes plan) v
            ∙ ap (λ xs. net (λ r. r) m.routes xs v) (amounts_twice (IsBestAt prices) prices m.routes plan priced.shown)
            ∙ sym (here v) ∙ priced.is_plan.meets_supplies v h ∙ omega (arith, ints, one-mul (at_node m.supplies v +ℤ pos 0 *ℤ unit_at u w v));
      }
    where
      here : (v : ℕ) → leaving m.routes plan v -ℤ arriving m.routes plan v ≡ net (λ r. r) m.routes plan v
      here v = subst (λ rs. leaving rs plan v -ℤ arriving rs plan v ≡ net (λ r. r) m.routes plan v) (same m.routes) (net_is (λ r. r) m.routes plan v)
        where
          same : (routes : List Route) → map (λ r. r) routes ≡ routes
          same [] = refl
          same (r ∷ routes) = ap (λ rs. r ∷ rs) (same routes)

      ones : (routes : List Route) (xs : List ℤ) → All (IsSoundRoute n) routes → AllZip (IsBestAt prices) routes xs
          → AllZip (λ r z. MayCarry (scaled_route (pos 1) (span prices r)) z) routes (amounts prices routes xs)
      ones [] [] s h = tt
      ones [] (x ∷ xs) s h = absurd h
      ones (r ∷ routes) [] s h = absurd h
      ones (r ∷ routes) (x ∷ xs) s h = (
        subst (MayCarry (scaled_route (pos 1) (span prices r))) (one-mul (span_amount prices r x))
            (may_finer (pos 1) (omega (arith, ints)) (span prices r) (span_amount prices r x) (to_span n prices r (All-head (IsSoundRoute n) r routes s) x h.0)),
        ones routes xs (All-tail (IsSoundRoute n) r routes s) h.1,
      )

pub units_cost_no_less_lem : UnitsCostNoLess
units_cost_no_less_lem m prices plan other u w d k sound priced hu hw k1 is = no_less m prices plan u w sound priced hu hw k d k1 other is
