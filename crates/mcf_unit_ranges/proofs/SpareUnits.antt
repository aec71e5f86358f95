-- The least plan of the spans tells for how many units what the prices say holds, and one unit on
-- spans without a limit tells that it holds for any number.
use Rattle.std.proofs.Common.{◌≡◌, ℕ, zero, suc, ◌-◌, eqb, Bool, true, false, List, [], ◌∷◌, length, map, refl, ap, sym, ◌∙◌, subst, arith, ℤ, pos, ◌+ℤ◌, ◌-ℤ◌, ◌≤ℤ◌, ◌<ℤ◌}
use Rattle.std.specs.Prelude.{Option, Some, None, option_map, replicate, slice_index_or}
use Rattle.std.specs.List.{AllZip}
use Rattle.std.proofs.Math.IntN.{◌*ℤ◌, *ℤ_comm}
use Rattle.std.proofs.lemmas.Int.{ints, clamps, by_lt_z}
use Rattle.std.proofs.lemmas.List.{length-replicate}
use Rattle.mcf_flows.specs.Network.{IsNode, at_node, when}
use Rattle.mcf_flows.proofs.IntLaws.{add-mul, mul-add, mul-mono_lt, mul-one, mul-sub, mul-zero, mul_above_zero, mul_at_least_zero, one-mul, sub-mul, zero-mul}
use Rattle.mcf_model.specs.Model.{Fits, IsLeastPlan, IsPlan, IsSound, IsSoundRoute, MayBeBoth, MayCarry, Model, Route, arriving, charged, leaving, plan_cost, plan_sum, route_cost}
use Rattle.mcf_model.specs.declared.rows.Step.{Step}
use Rattle.mcf_model.specs.Scaling.{scaled, scaled_route, scaled_step}
use Rattle.mcf_figures.specs.FigureLaws.{IsPriced}
use Rattle.mcf_unit_ranges.specs.SpanModels.{free_model, freed, span_model, still}
use Rattle.mcf_unit_ranges.specs.Spans.{span}
use Rattle.mcf_unit_ranges.specs.UnitRanges.{HoldsFor, IsUnitsRange}
use Rattle.mcf_unit_ranges.proofs.FinerSpans.{may_finer}
use Rattle.mcf_unit_ranges.proofs.Holding.{IsSpanned, spanned_from, spanned_here, spanned_to}
use Rattle.mcf_unit_ranges.proofs.Products.{mul-assoc}
use Rattle.mcf_unit_ranges.proofs.SpanPlans.{all_mixed, amounts, may_mixed, mixed, net, net_is, net_mixed, plan_sum-map, span_sound, zip_map, zip_unmap}
use Rattle.mcf_unit_ranges.proofs.Supplies.{as_long_both, as_long_finer, finer_supply, unit_at, units_at, units_supply}

-- ---- numbers

-- what leaves by another way, and what is moved by the spans
moved_rest : (k most d s e : ℤ) → (k *ℤ (most -ℤ d)) *ℤ e +ℤ k *ℤ (s +ℤ d *ℤ e) ≡ k *ℤ (s +ℤ most *ℤ e)
moved_rest k most d s e =
    omega (
      arith,
      ints,
      mul-assoc k (most -ℤ d) e,
      ap (λ z. k *ℤ z) (sub-mul most d e),
      mul-sub k (most *ℤ e) (d *ℤ e),
      mul-add k s (d *ℤ e),
      mul-add k s (most *ℤ e),
    )

expanded : (p a s d e : ℤ) → p *ℤ (a *ℤ (s +ℤ d *ℤ e)) ≡ (p *ℤ a) *ℤ s +ℤ (p *ℤ (a *ℤ d)) *ℤ e
expanded p a s d e =
    let inner : a *ℤ (s +ℤ d *ℤ e) ≡ a *ℤ s +ℤ (a *ℤ d) *ℤ e = mul-add a s (d *ℤ e) ∙ ap (λ z. a *ℤ s +ℤ z) (sym (mul-assoc a d e)) in
    omega (
      arith,
      ints,
      ap (λ z. p *ℤ z) inner,
      mul-add p (a *ℤ s) ((a *ℤ d) *ℤ e),
      mul-assoc p a s,
      mul-assoc p (a *ℤ d) e,
    )

together : (p q a b c d1 d2 d s e : ℤ) → p *ℤ a +ℤ q *ℤ b ≡ c → p *ℤ (a *ℤ d1) +ℤ q *ℤ (b *ℤ d2) ≡ c *ℤ d
    → p *ℤ (a *ℤ (s +ℤ d1 *ℤ e)) +ℤ q *ℤ (b *ℤ (s +ℤ d2 *ℤ e)) ≡ c *ℤ (s +ℤ d *ℤ e)
together p q a b c d1 d2 d s e total moved =
    let first = add-mul (p *ℤ a) (q *ℤ b) s in
    let second = add-mul (p *ℤ (a *ℤ d1)) (q *ℤ (b *ℤ d2)) e in
    omega (
      arith,
      ints,
      expanded p a s d1 e,
      expanded q b s d2 e,
      first,
      second,
      ap (λ z. z *ℤ s) total,
      ap (λ z. z *ℤ e) moved,
      mul-add c s (d *ℤ e),
      mul-assoc c d e,
    )

module _ (m : Model) (prices plan : List ℤ) (u w : ℕ) (sound : IsSound m) (priced : IsPriced m prices plan) (hu : IsNode (length m.supplies) u)
    (hw : IsNode (length m.supplies) w) where
  abbrev n : ℕ
  n = length m.supplies

  abbrev Moves : ℤ → ℤ → List ℤ → Type 0
  Moves k d zs = IsSpanned m prices plan u w sound priced hu hw k d zs

  abbrev Spans : ℤ → Route → ℤ → Type 0
  Spans k r z = MayCarry (scaled_route k (span prices r)) z

  -- p of one and q of another
  moves_mixed : (p q : ℤ) (p0 : pos 0 ≤ℤ p) (q0 : pos 0 ≤ℤ q) (a b c d1 d2 d : ℤ) (xs ys : List ℤ) → p *ℤ a +ℤ q *ℤ b ≡ c
      → p *ℤ (a *ℤ d1) +ℤ q *ℤ (b *ℤ d2) ≡ c *ℤ d → Moves a d1 xs → Moves b d2 ys → Moves c d (mixed p q p0 q0 xs ys)
  moves_mixed p q p0 q0 a b c d1 d2 d xs ys total moved one other =
      record {
        may = all_mixed p q p0 q0 (Spans a) (Spans b) (Spans c) (IsSoundRoute n)
            (λ r x y s h k. may_mixed p q p0 q0 a b c total (span prices r) x y (span_sound n prices r s).may_be_both refl h k)
            m.routes xs ys sound one.may other.may;
        meets = λ v h.
            let e = unit_at u w v in
            let s = at_node m.supplies v in
            net_mixed p q p0 q0 (Spans a) (Spans b) (span prices) m.routes xs ys v one.may other.may
            ∙ ap (λ z. p *ℤ z +ℤ q *ℤ net (span prices) m.routes ys v) (one.meets v h)
            ∙ ap (λ z. p *ℤ (a *ℤ (s +ℤ d1 *ℤ e)) +ℤ q *ℤ z) (other.meets v h)
            ∙ together p q a b c d1 d2 d s e total moved;
      }

  abbrev pub here : List ℤ
  here = amounts prices m.routes plan

  stays : Moves (pos 1) (pos 0) here
  stays = spanned_here m prices plan u w sound priced hu hw

  holds : (k d : ℤ) (zs : List ℤ) → pos 1 ≤ℤ k → Moves k d zs → HoldsFor m prices plan u w d
  holds k d zs k1 it = spanned_from m prices plan u w sound priced hu hw k d k1 zs it

  holds_none : (d : ℤ) → d ≡ pos 0 → HoldsFor m prices plan u w d
  holds_none d e = subst (HoldsFor m prices plan u w) (sym e) (holds (pos 1) (pos 0) here (omega (arith, ints)) stays)

  -- ---- the model of the spans

  module _ (most : ℤ) (most0 : pos 0 ≤ℤ most) where
    abbrev spans : Model
    spans = span_model prices m u w most

    abbrev rest : ℤ → List Route
    rest k = map (scaled_route k) (map (span prices) m.routes)

    rest_net : (k : ℤ) (zs : List ℤ) (v : ℕ) → leaving (rest k) zs v -ℤ arriving (rest k) zs v ≡ net (span prices) m.routes zs v
    rest_net k zs v =
        net_is (scaled_route k) (map (span prices) m.routes) zs v
        ∙ plan_sum-map (λ r x. when (eqb r.tail v) x -ℤ when (eqb r.head v) x) (span prices) m.routes zs

    no_cost : (k : ℤ) (routes : List Route) (zs : List ℤ) → plan_sum route_cost (map (scaled_route k) (map (span prices) routes)) zs ≡ pos 0
    no_cost k [] zs = refl
    no_cost k (r ∷ routes) [] = refl
    no_cost k (r ∷ routes) (z ∷ zs) = omega (arith, ints, zero-mul (charged (span prices r).both z), no_cost k routes zs)

    cost_of : (k b : ℤ) (zs : List ℤ) → plan_cost (scaled k spans) (b ∷ zs) ≡ b
    cost_of k b zs = omega (arith, ints, one-mul b, no_cost k m.routes zs)

    span_plan : (k d : ℤ) (zs : List ℤ) → pos 1 ≤ℤ k → d ≤ℤ most → Moves k d zs → IsPlan (scaled k spans) ((k *ℤ (most -ℤ d)) ∷ zs)
    span_plan k d zs k1 le it =
        let b = k *ℤ (most -ℤ d) in
        record {
          may_carry = (
            record { enough = omega (arith, ints, mul-zero k, mul_at_least_zero k (most -ℤ d) (omega (arith, ints, k1)) (omega (arith, ints, le))); fits = tt },
            zip_map MayCarry (scaled_route k) (map (span prices) m.routes) zs (zip_map (λ r z. MayCarry (scaled_route k r) z) (span prices) m.routes zs it.may),
          );
          meets_supplies = λ v h.
              let hv : IsNode n v = (h.0, omega (arith, h.1, as_long_finer m u w most hu hw k)) in
              omega (
                arith,
                ints,
                rest_net k zs v,
                it.meets v hv,
                units_at u w v b,
                moved_rest k most d (at_node m.supplies v) (unit_at u w v),
                finer_supply m u w most hu hw k v hv,
              );
        }

    from_plan : (b : ℤ) (zs : List ℤ) → IsPlan spans (b ∷ zs) → Moves (pos 1) (most -ℤ b) zs
    from_plan b zs is =
        record {
          may = ones m.routes zs (zip_unmap MayCarry (span prices) m.routes zs is.may_carry.1);
          meets = λ v h.
              let hv : IsNode (length spans.supplies) v = (h.0, omega (arith, h.1, as_long_both m u w most hu hw)) in
              let e = unit_at u w v in
              let s = at_node m.supplies v in
              let total = is.meets_supplies v hv in
              omega (
                arith,
                ints,
                total,
                net_is (span prices) m.routes zs v,
                units_at u w v b,
                units_supply m u w most hu hw v h,
                one-mul (s +ℤ (most -ℤ b) *ℤ e),
                sub-mul most b e,
              );
        }
      where
        ones : (routes : List Route) (xs : List ℤ) → AllZip (λ r z. MayCarry (span prices r) z) routes xs → AllZip (Spans (pos 1)) routes xs
        ones [] [] h = tt
        ones [] (x ∷ xs) h = absurd h
        ones (r ∷ routes) [] h = absurd h
        ones (r ∷ routes) (x ∷ xs) h =
            (subst (MayCarry (scaled_route (pos 1) (span prices r))) (one-mul x) (may_finer (pos 1) (omega (arith, ints)) (span prices r) x h.0), ones routes xs h.1)

    -- a least plan, of which b units take the spare route
    module _ (b : ℤ) (zs : List ℤ) (is : IsPlan spans (b ∷ zs)) (least : (k : ℤ) → pos 1 ≤ℤ k → IsLeastPlan (scaled k spans) (map (λ x. k *ℤ x) (b ∷ zs))) where
      no_more : (k d : ℤ) (xs : List ℤ) → pos 1 ≤ℤ k → d ≤ℤ most → Moves k d xs → b ≤ℤ (most -ℤ d)
      no_more k d xs k1 le it =
          by_lt_z (most -ℤ d) b
          (λ less.
          let up = (least k k1).least ((k *ℤ (most -ℤ d)) ∷ xs) (span_plan k d xs k1 le it) in
          let low = mul-mono_lt k (most -ℤ d) b (omega (arith, ints, k1)) less in
          absurd (omega (arith, ints, up, low, cost_of k (k *ℤ (most -ℤ d)) xs, cost_of k (k *ℤ b) (map (λ x. k *ℤ x) zs))))
          (λ more. more)

      pub spare_at_most : b ≤ℤ most
      spare_at_most = omega (arith, ints, no_more (pos 1) (pos 0) here (omega (arith, ints)) most0 stays)

      range_to : pos 0 <ℤ b → (d : ℤ) → pos 0 ≤ℤ d → HoldsFor m prices plan u w d → d ≤ℤ (most -ℤ b)
      range_to some d d0 holds =
          let k = holds.finer in
          let k1 = holds.is_finer in
          let xs = amounts prices m.routes holds.reached.plan in
          let it : Moves k d xs = spanned_to m prices plan u w sound priced hu hw k d k1 holds.reached.plan holds.reached.is_plan holds.reached.cost_is in
          by_lt_z most d
          (λ above.
          let q = (d -ℤ most) *ℤ k in
          let q0 : pos 0 ≤ℤ q = mul_at_least_zero (d -ℤ most) k (omega (arith, ints, above)) (omega (arith, ints, k1)) in
          let c = d *ℤ k in
          let c1 : pos 1 ≤ℤ c = omega (arith, ints, mul_above_zero d k (omega (arith, ints, above, most0)) (omega (arith, ints, k1))) in
          let total : most *ℤ k +ℤ q *ℤ pos 1 ≡ c = omega (arith, ints, mul-one q, sub-mul d most k) in
          let none : pos 1 *ℤ pos 0 ≡ pos 0 = one-mul (pos 0) in
          let moved : most *ℤ (k *ℤ d) +ℤ q *ℤ (pos 1 *ℤ pos 0) ≡ c *ℤ most =
          omega (arith, ints, ap (λ z. q *ℤ z) none, mul-zero q, *ℤ_comm most (k *ℤ d), ap (λ z. z *ℤ most) (*ℤ_comm k d)) in
          let both = moves_mixed most q most0 q0 k (pos 1) c d (pos 0) most xs here total moved it stays in
          absurd (omega (arith, ints, some, no_more c most (mixed most q most0 q0 xs here) c1 (omega (arith, ints)) both)))
          (λ within. omega (arith, ints, no_more k d xs k1 within it))

      range_from : (d : ℤ) → pos 0 ≤ℤ d → d ≤ℤ (most -ℤ b) → HoldsFor m prices plan u w d
      range_from d d0 le =
          let e = most -ℤ b in
          by_lt_z (pos 0) e
          (λ some.
          let p0 : pos 0 ≤ℤ (e -ℤ d) = omega (arith, ints, le) in
          let total : (e -ℤ d) *ℤ pos 1 +ℤ d *ℤ pos 1 ≡ e = omega (arith, ints, mul-one (e -ℤ d), mul-one d) in
          let none : pos 1 *ℤ pos 0 ≡ pos 0 = one-mul (pos 0) in
          let moved : (e -ℤ d) *ℤ (pos 1 *ℤ pos 0) +ℤ d *ℤ (pos 1 *ℤ e) ≡ e *ℤ d =
          omega (arith, ints, ap (λ z. (e -ℤ d) *ℤ z) none, mul-zero (e -ℤ d), ap (λ z. d *ℤ z) (one-mul e), *ℤ_comm d e) in
          holds e d (mixed (e -ℤ d) d p0 d0 here zs) (omega (arith, ints, some))
          (moves_mixed (e -ℤ d) d p0 d0 (pos 1) (pos 1) e (pos 0) e d here zs total moved stays (from_plan b zs is)))
          (λ no_more. holds_none d (omega (arith, ints, d0, le, no_more)))

      pub range_is : pos 0 <ℤ b → IsUnitsRange m prices plan u w (Some (most -ℤ b))
      range_is some d d0 = (range_to some d d0, range_from d d0)

      -- with no unit on the spare route, it holds for all of them
      pub holds_all : b ≡ pos 0 → HoldsFor m prices plan u w most
      holds_all none = range_from most most0 (omega (arith, ints, none))

    -- some plan has all units on the spare route
    pub some_plan : IsPlan spans (most ∷ here)
    some_plan =
        record {
          may_carry = (record { enough = most0; fits = tt }, zip_map MayCarry (span prices) m.routes here (ones m.routes here stays.may));
          meets_supplies = λ v h.
              let hv : IsNode n v = (h.0, omega (arith, h.1, as_long_both m u w most hu hw)) in
              let e = unit_at u w v in
              let s = at_node m.supplies v in
              omega (
                arith,
                ints,
                net_is (span prices) m.routes here v,
                stays.meets v hv,
                one-mul (s +ℤ pos 0 *ℤ e),
                zero-mul e,
                units_at u w v most,
                units_supply m u w most hu hw v hv,
              );
        }
      where
        one_limit : (o : Option ℤ) → option_map (λ y. pos 1 *ℤ y) o ≡ o
        one_limit (Some y) = ap Some (one-mul y)
        one_limit None = refl

        one_route : (r : Route) → scaled_route (pos 1) (span prices r) ≡ span prices r
        one_route r =
            ap (λ l. record (span prices r) { least = l; last_most = option_map (λ y. pos 1 *ℤ y) (span prices r).last_most }) (one-mul (span prices r).least)
            ∙ ap (λ o. record (span prices r) { last_most = o }) (one_limit (span prices r).last_most)

        ones : (routes : List Route) (xs : List ℤ) → AllZip (Spans (pos 1)) routes xs → AllZip (λ r z. MayCarry (span prices r) z) routes xs
        ones [] [] h = tt
        ones [] (x ∷ xs) h = absurd h
        ones (r ∷ routes) [] h = absurd h
        ones (r ∷ routes) (x ∷ xs) h = (subst (λ s. MayCarry s x) (one_route r) h.0, ones routes xs h.1)

  -- ---- spans without a limit

  still_long : length (still m).supplies ≡ n
  still_long = length-replicate n (pos 0)

  still_none : (v : ℕ) → at_node (still m).supplies v ≡ pos 0
  still_none v = at n (v - 1)
    where
      at : (n i : ℕ) → slice_index_or (replicate n (pos 0)) i (pos 0) ≡ pos 0
      at zero i = refl
      at (suc n) zero = refl
      at (suc n) (suc i) = at n i

  module _ (d : ℤ) (d0 : pos 0 ≤ℤ d) where
    one0 : pos 0 ≤ℤ pos 1
    one0 = omega (arith, ints)

    -- the amount of a span and d of what it may be exceeded by
    may_exceed : (s : Route) (x y : ℤ) → MayBeBoth s.both s.least [] s.last_most (pos 0) → s.steps ≡ [] → MayCarry (scaled_route (pos 1) s) x → MayCarry (freed s) y
        → MayCarry (scaled_route (pos 1) s) (pos 1 *ℤ x +ℤ d *ℤ y)
    may_exceed s x y may none h k = go s.last_most refl
      where
        same : y ≡ pos 0 → pos 1 *ℤ x +ℤ d *ℤ y ≡ x
        same e = omega (arith, ints, one-mul x, ap (λ z. d *ℤ z) e, mul-zero d)

        nothing : (both : Bool) → pos 0 ≤ℤ charged both y → charged both y ≤ℤ pos 0 → y ≡ pos 0
        nothing true l h = omega (arith, ints, clamps, l, h)
        nothing false l h = omega (arith, ints, l, h)

        enough : (both : Bool) → MayBeBoth both s.least [] s.last_most (pos 0) → (pos 1 *ℤ s.least) ≤ℤ charged both x → pos 0 ≤ℤ charged both y
            → (pos 1 *ℤ s.least) ≤ℤ charged both (pos 1 *ℤ x +ℤ d *ℤ y)
        enough true may l h = omega (arith, ints, clamps, ap (λ z. pos 1 *ℤ z) may.0, mul-zero (pos 1))
        enough false may l h = omega (arith, ints, l, one-mul x, mul_at_least_zero d y d0 h)

        go : (o : Option ℤ) → s.last_most ≡ o → MayCarry (scaled_route (pos 1) s) (pos 1 *ℤ x +ℤ d *ℤ y)
        go (Some mo) e =
            let f : charged s.both y ≤ℤ pos 0 = subst (λ (ss : List Step). Fits ss (option_map (λ most. pos 0) (Some mo)) (charged s.both y)) none
            (subst (λ o. Fits s.steps (option_map (λ most. pos 0) o) (charged s.both y)) e k.fits) in
            subst (MayCarry (scaled_route (pos 1) s)) (sym (same (nothing s.both k.enough f))) h
        go None e =
            record {
              enough = enough s.both may h.enough k.enough;
              fits = subst (λ o. Fits (map (scaled_step (pos 1)) s.steps) (option_map (λ z. pos 1 *ℤ z) o) (charged s.both (pos 1 *ℤ x +ℤ d *ℤ y))) (sym e) tt;
            }

    holds_any : (ps : List ℤ) → IsPlan (free_model prices m u w) ps → HoldsFor m prices plan u w d
    holds_any ps is =
        let Q : Route → ℤ → Type 0 = λ r y. MayCarry (freed (span prices r)) y in
        let may = zip_unmap MayCarry (λ r. freed (span prices r)) m.routes ps is.may_carry in
        holds (pos 1) d (mixed (pos 1) d one0 d0 here ps) (omega (arith, ints))
        (record {
          may = all_mixed (pos 1) d one0 d0 (Spans (pos 1)) Q (Spans (pos 1)) (IsSoundRoute n)
              (λ r x y s h k. may_exceed (span prices r) x y (span_sound n prices r s).may_be_both refl h k) m.routes here ps sound stays.may may;
          meets = λ v h.
              let e = unit_at u w v in
              let s = at_node m.supplies v in
              let hu' : IsNode (length (still m).supplies) u = (hu.0, omega (arith, hu.1, still_long)) in
              let hw' : IsNode (length (still m).supplies) w = (hw.0, omega (arith, hw.1, still_long)) in
              let hv' : IsNode (length (still m).supplies) v = (h.0, omega (arith, h.1, still_long)) in
              let hv : IsNode (length (free_model prices m u w).supplies) v = (h.0, omega (arith, h.1, still_long, as_long_both (still m) u w (pos 1) hu' hw')) in
              let its : net (span prices) m.routes ps v ≡ e =
              sym (net_is (λ r. freed (span prices r)) m.routes ps v) ∙ is.meets_supplies v hv ∙ units_supply (still m) u w (pos 1) hu' hw' v hv'
              ∙ omega (arith, ints, still_none v, one-mul e) in
              omega (
                arith,
                ints,
                net_mixed (pos 1) d one0 d0 (Spans (pos 1)) Q (span prices) m.routes here ps v stays.may may,
                stays.meets v h,
                one-mul (net (span prices) m.routes here v),
                one-mul (s +ℤ pos 0 *ℤ e),
                one-mul (s +ℤ d *ℤ e),
                zero-mul e,
                ap (λ z. d *ℤ z) its,
              );
        })

  pub range_is_free : (ps : List ℤ) → IsPlan (free_model prices m u w) ps → IsUnitsRange m prices plan u w None
  range_is_free ps is d d0 = ((λ h. tt), (λ t. holds_any d d0 ps is))
