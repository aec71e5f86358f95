-- Amounts of spans, route by route: their sums, and what they make together.
use Rattle.std.proofs.Common.{◌≡◌, ℕ, eqb, Bool, true, false, List, [], ◌∷◌, map, refl, ap, sym, ◌∙◌, subst, arith, ℤ, pos, neg_ℤ, ◌+ℤ◌, ◌-ℤ◌, ◌≤ℤ◌, if◌then◌else◌}
use Rattle.std.specs.Prelude.{Option, Some, None, option_map}
use Rattle.std.specs.List.{All, AllZip}
use Rattle.std.specs.Int.{int_max}
use Rattle.std.specs.Ordering.{int_eq}
use Rattle.std.proofs.Math.IntN.{◌*ℤ◌}
use Rattle.std.proofs.lemmas.Int.{ints, clamps, by_lt_z}
use Rattle.std.proofs.lemmas.List.Elements.{All-head, All-tail}
use Rattle.mcf_flows.specs.Network.{when}
use Rattle.mcf_flows.proofs.IntLaws.{mul-add, mul-mono, mul-neg, mul-sub, mul-zero, add-mul}
use Rattle.mcf_model.specs.declared.rows.Step.{Step}
use Rattle.mcf_model.specs.Faults.{first_cost}
use Rattle.mcf_model.specs.Model.{CostAtLeast, Fits, IsRoom, IsSoundRoute, MayBeBoth, MayCarry, Route, arriving, charged, leaving, plan_sum, size}
use Rattle.mcf_model.specs.Scaling.{scaled_route, scaled_step}
use Rattle.mcf_unit_ranges.specs.Spans.{goes_back, span, span_of, turned}
use Rattle.mcf_unit_ranges.proofs.OneWay.{drop, high, low, made}
use Rattle.mcf_unit_ranges.proofs.Products.{mul-assoc}
use Rattle.mcf_unit_ranges.proofs.SpanLaws.{equal, not_equal, span_amount, twice}
use Rattle.mcf_unit_ranges.proofs.UnitCosts.{is_below, is_not_below, is_not_up_to, is_up_to}

-- ---- lists

module _ {X Y Z : Type 0} (R : Y → Z → Type 0) (f : X → Y) where
  pub zip_map : (xs : List X) (zs : List Z) → AllZip (λ x z. R (f x) z) xs zs → AllZip R (map f xs) zs
  zip_map [] [] h = h
  zip_map [] (z ∷ zs) h = h
  zip_map (x ∷ xs) [] h = h
  zip_map (x ∷ xs) (z ∷ zs) h = (h.0, zip_map xs zs h.1)

  pub zip_unmap : (xs : List X) (zs : List Z) → AllZip R (map f xs) zs → AllZip (λ x z. R (f x) z) xs zs
  zip_unmap [] [] h = h
  zip_unmap [] (z ∷ zs) h = h
  zip_unmap (x ∷ xs) [] h = h
  zip_unmap (x ∷ xs) (z ∷ zs) h = (h.0, zip_unmap xs zs h.1)

pub plan_sum-map : (t : Route → ℤ → ℤ) (f : Route → Route) (routes : List Route) (plan : List ℤ)
    → plan_sum t (map f routes) plan ≡ plan_sum (λ r x. t (f r) x) routes plan
plan_sum-map t f [] plan = refl
plan_sum-map t f (r ∷ routes) [] = refl
plan_sum-map t f (r ∷ routes) (x ∷ plan) = ap (λ z. t (f r) x +ℤ z) (plan_sum-map t f routes plan)

plan_sum-sub : (s t : Route → ℤ → ℤ) (routes : List Route) (plan : List ℤ) → plan_sum (λ r x. s r x -ℤ t r x) routes plan ≡ plan_sum s routes plan -ℤ plan_sum t routes plan
plan_sum-sub s t [] plan = refl
plan_sum-sub s t (r ∷ routes) [] = refl
plan_sum-sub s t (r ∷ routes) (x ∷ plan) = omega (arith, ints, plan_sum-sub s t routes plan)

-- ---- what leaves a place, less what comes to it

abbrev pub net : (Route → Route) → List Route → List ℤ → ℕ → ℤ
net f routes plan v = plan_sum (λ r x. when (eqb (f r).tail v) x -ℤ when (eqb (f r).head v) x) routes plan

pub net_is : (f : Route → Route) (routes : List Route) (plan : List ℤ) (v : ℕ)
    → leaving (map f routes) plan v -ℤ arriving (map f routes) plan v ≡ net f routes plan v
net_is f routes plan v =
    ap (λ z. z -ℤ arriving (map f routes) plan v) (plan_sum-map (λ r x. when (eqb r.tail v) x) f routes plan)
    ∙ ap (λ z. plan_sum (λ r x. when (eqb (f r).tail v) x) routes plan -ℤ z) (plan_sum-map (λ r x. when (eqb r.head v) x) f routes plan)
    ∙ sym (plan_sum-sub (λ r x. when (eqb (f r).tail v) x) (λ r x. when (eqb (f r).head v) x) routes plan)

pub net_self : (routes : List Route) (plan : List ℤ) (v : ℕ) → leaving routes plan v -ℤ arriving routes plan v ≡ net (λ r. r) routes plan v
net_self routes plan v = sym (plan_sum-sub (λ r x. when (eqb r.tail v) x) (λ r x. when (eqb r.head v) x) routes plan)

-- ---- amounts of routes and of their spans

abbrev pub amounts : List ℤ → List Route → List ℤ → List ℤ
amounts prices [] plan = []
amounts prices (r ∷ routes) [] = []
amounts prices (r ∷ routes) (x ∷ plan) = span_amount prices r x ∷ amounts prices routes plan

when_neg : (t : Bool) (x : ℤ) → when t (neg_ℤ x) ≡ neg_ℤ (when t x)
when_neg true x = refl
when_neg false x = refl

pub one_net : (prices : List ℤ) (r : Route) (x : ℤ) (v : ℕ) → when (eqb (span prices r).tail v) x -ℤ when (eqb (span prices r).head v) x
    ≡ when (eqb r.tail v) (span_amount prices r x) -ℤ when (eqb r.head v) (span_amount prices r x)
one_net prices r x v = go (goes_back prices r)
  where
    go : (b : Bool) → when (eqb (span_of prices (if b then turned r else r)).tail v) x -ℤ when (eqb (span_of prices (if b then turned r else r)).head v) x
        ≡ when (eqb r.tail v) (if b then neg_ℤ x else x) -ℤ when (eqb r.head v) (if b then neg_ℤ x else x)
    go true = omega (arith, ints, when_neg (eqb r.tail v) x, when_neg (eqb r.head v) x)
    go false = refl

pub net_amounts : (prices : List ℤ) (routes : List Route) (plan : List ℤ) (v : ℕ) → net (span prices) routes plan v ≡ net (λ r. r) routes (amounts prices routes plan) v
net_amounts prices [] plan v = refl
net_amounts prices (r ∷ routes) [] v = refl
net_amounts prices (r ∷ routes) (x ∷ plan) v = omega (arith, ints, one_net prices r x v, net_amounts prices routes plan v)

pub amounts_twice : (R : Route → ℤ → Type 0) (prices : List ℤ) (routes : List Route) (plan : List ℤ) → AllZip R routes plan
    → amounts prices routes (amounts prices routes plan) ≡ plan
amounts_twice R prices [] [] h = refl
amounts_twice R prices [] (x ∷ plan) h = absurd h
amounts_twice R prices (r ∷ routes) [] h = refl
amounts_twice R prices (r ∷ routes) (x ∷ plan) h =
    ap (λ z. z ∷ amounts prices routes (amounts prices routes plan)) (twice prices r x) ∙ ap (λ zs. x ∷ zs) (amounts_twice R prices routes plan h.1)

-- ---- spans are sound

module _ (prices : List ℤ) (tail head : ℕ) (least : ℤ) (steps : List Step) (most : Option ℤ) (c : ℤ) (may : MayBeBoth true least steps most c) where
  abbrev z : ℤ
  z = drop prices tail head least steps most c

  first_at_least : (steps : List Step) → CostAtLeast (pos 0) steps c → pos 0 ≤ℤ first_cost steps c
  first_at_least [] h = h
  first_at_least (s ∷ steps) h = h.0

  some_most : (o : Option ℤ) → IsRoom (option_map (λ x. int_max least x) o)
  some_most (Some y) = let none = may.0 in omega (arith, ints, clamps, none)
  some_most None = tt

  still_both : z ≡ pos 0 → MayBeBoth true (low prices tail head least steps most c) [] (high prices tail head least steps most c) (pos 0)
  still_both e =
      let none = may.0 in
      let first = first_at_least steps may.1 in (
        rw (is_not_below (first_cost steps c) z (omega (arith, ints, first, e))) none,
        omega (arith, ints),
        by_lt_z z (first_cost steps c)
            (λ dear. rw (is_not_up_to (first_cost steps c) z dear) (omega (arith, ints, none)))
            (λ cheap. rw (is_up_to (first_cost steps c) z cheap) (some_most _)),
      )

  may_both : pos 0 ≤ℤ z → MayBeBoth (int_eq z (pos 0)) (low prices tail head least steps most c) [] (high prices tail head least steps most c) (pos 0)
  may_both up =
      by_lt_z (pos 0) z
      (λ drops. subst (λ b. MayBeBoth b (low prices tail head least steps most c) [] (high prices tail head least steps most c) (pos 0)) (sym (not_equal z (pos 0) drops)) tt)
      (λ stays. let e : z ≡ pos 0 = omega (arith, ints, up, stays) in
      subst (λ b. MayBeBoth b (low prices tail head least steps most c) [] (high prices tail head least steps most c) (pos 0)) (sym (equal z (pos 0) e)) (still_both e))

module _ (places : ℕ) (prices : List ℤ) where
  sound_by : (both : Bool) (tail head : ℕ) (least : ℤ) (steps : List Step) (most : Option ℤ) (c : ℤ) → IsSoundRoute places (made prices tail head least steps most c both)
      → IsSoundRoute places (span prices (made prices tail head least steps most c both))
  sound_by false tail head least steps most c s =
      record { tail_is_place = s.tail_is_place; head_is_place = s.head_is_place; rises = tt; adds = tt; may_be_both = tt }
  sound_by true tail head least steps most c s =
      let d = drop prices tail head least steps most c in
      let there = made prices tail head least steps most c true in
      let back = made prices head tail least steps most c true in
      by_lt_z d (pos 0)
      (λ less. subst (λ b. IsSoundRoute places (span_of prices (if b then back else there))) (sym (is_below d (pos 0) less))
      (record {
        tail_is_place = s.head_is_place;
        head_is_place = s.tail_is_place;
        rises = tt;
        adds = tt;
        may_be_both = may_both prices head tail least steps most c s.may_be_both (omega (arith, ints, less));
      }))
      (λ more. subst (λ b. IsSoundRoute places (span_of prices (if b then back else there))) (sym (is_not_below d (pos 0) more))
      (record {
        tail_is_place = s.tail_is_place;
        head_is_place = s.head_is_place;
        rises = tt;
        adds = tt;
        may_be_both = may_both prices tail head least steps most c s.may_be_both more;
      }))

  pub span_sound : (r : Route) → IsSoundRoute places r → IsSoundRoute places (span prices r)
  span_sound r sound = sound_by r.both r.tail r.head r.least r.steps r.last_most r.last_cost sound

-- ---- amounts put together

size_at_most : (x y : ℤ) → x ≤ℤ y → neg_ℤ x ≤ℤ y → size x ≤ℤ y
size_at_most x y h k = omega (arith, ints, clamps, h, k)

-- p of one and q of another
module _ (p q : ℤ) (p0 : pos 0 ≤ℤ p) (q0 : pos 0 ≤ℤ q) where
  size_mixed : (x y : ℤ) → size (p *ℤ x +ℤ q *ℤ y) ≤ℤ (p *ℤ size x +ℤ q *ℤ size y)
  size_mixed x y =
      let a = mul-mono p x (size x) p0 (omega (arith, ints, clamps)) in
      let b = mul-mono q y (size y) q0 (omega (arith, ints, clamps)) in
      let c = mul-mono p (neg_ℤ x) (size x) p0 (omega (arith, ints, clamps)) in
      let d = mul-mono q (neg_ℤ y) (size y) q0 (omega (arith, ints, clamps)) in
      size_at_most (p *ℤ x +ℤ q *ℤ y) (p *ℤ size x +ℤ q *ℤ size y) (omega (arith, ints, a, b))
      (omega (arith, ints, c, d, mul-neg p x, mul-neg q y))

  module _ (a b c : ℤ) (total : p *ℤ a +ℤ q *ℤ b ≡ c) where
    parts : (y : ℤ) → c *ℤ y ≡ p *ℤ (a *ℤ y) +ℤ q *ℤ (b *ℤ y)
    parts y =
        ap (λ w. w *ℤ y) (sym total) ∙ add-mul (p *ℤ a) (q *ℤ b) y ∙ ap (λ w. w +ℤ (q *ℤ b) *ℤ y) (mul-assoc p a y) ∙ ap (λ w. p *ℤ (a *ℤ y) +ℤ w) (mul-assoc q b y)

    fits_mixed : (o : Option ℤ) (x y : ℤ) → Fits [] (option_map (λ m. a *ℤ m) o) x → Fits [] (option_map (λ m. b *ℤ m) o) y
        → Fits [] (option_map (λ m. c *ℤ m) o) (p *ℤ x +ℤ q *ℤ y)
    fits_mixed (Some m) x y h k = omega (arith, ints, parts m, mul-mono p x (a *ℤ m) p0 h, mul-mono q y (b *ℤ m) q0 k)
    fits_mixed None x y h k = tt

    lower_fits : (o : Option ℤ) (x y : ℤ) → Fits [] o x → y ≤ℤ x → Fits [] o y
    lower_fits (Some m) x y h k = omega (arith, ints, h, k)
    lower_fits None x y h k = tt

    pub may_mixed : (s : Route) (x y : ℤ) → MayBeBoth s.both s.least [] s.last_most (pos 0) → s.steps ≡ [] → MayCarry (scaled_route a s) x → MayCarry (scaled_route b s) y
        → MayCarry (scaled_route c s) (p *ℤ x +ℤ q *ℤ y)
    may_mixed s x y may none h k =
        let fx = subst (λ ss. Fits (map (scaled_step a) ss) (option_map (λ m. a *ℤ m) s.last_most) (charged s.both x)) none h.fits in
        let fy = subst (λ ss. Fits (map (scaled_step b) ss) (option_map (λ m. b *ℤ m) s.last_most) (charged s.both y)) none k.fits in
        let f = by_both s.both s.least s.last_most may h.enough k.enough fx fy in
        record {
          enough = f.0;
          fits = subst (λ ss. Fits (map (scaled_step c) ss) (option_map (λ m. c *ℤ m) s.last_most) (charged s.both (p *ℤ x +ℤ q *ℤ y))) (sym none) f.1;
        }
      where
        by_both : (both : Bool) (least : ℤ) (o : Option ℤ) → MayBeBoth both least [] o (pos 0) → (a *ℤ least) ≤ℤ charged both x → (b *ℤ least) ≤ℤ charged both y
            → Fits [] (option_map (λ m. a *ℤ m) o) (charged both x) → Fits [] (option_map (λ m. b *ℤ m) o) (charged both y)
            → ((c *ℤ least) ≤ℤ charged both (p *ℤ x +ℤ q *ℤ y)) × Fits [] (option_map (λ m. c *ℤ m) o) (charged both (p *ℤ x +ℤ q *ℤ y))
        by_both false least o may lx ly fx fy =
            (omega (arith, ints, parts least, mul-mono p (a *ℤ least) x p0 lx, mul-mono q (b *ℤ least) y q0 ly), fits_mixed o x y fx fy)
        by_both true least o may lx ly fx fy =
            let none : c *ℤ least ≡ pos 0 = ap (λ w. c *ℤ w) may.0 ∙ mul-zero c in (
              omega (arith, ints, clamps, none),
              lower_fits (option_map (λ m. c *ℤ m) o) (p *ℤ size x +ℤ q *ℤ size y) (size (p *ℤ x +ℤ q *ℤ y)) (fits_mixed o (size x) (size y) fx fy) (size_mixed x y),
            )

  when_mixed : (t : Bool) (x y : ℤ) → when t (p *ℤ x +ℤ q *ℤ y) ≡ p *ℤ when t x +ℤ q *ℤ when t y
  when_mixed true x y = refl
  when_mixed false x y = omega (arith, ints, mul-zero p, mul-zero q)

  one_mixed : (t s : Bool) (x y : ℤ) → when t (p *ℤ x +ℤ q *ℤ y) -ℤ when s (p *ℤ x +ℤ q *ℤ y) ≡ p *ℤ (when t x -ℤ when s x) +ℤ q *ℤ (when t y -ℤ when s y)
  one_mixed t s x y =
      omega (
        arith,
        ints,
        when_mixed t x y,
        when_mixed s x y,
        mul-sub p (when t x) (when s x),
        mul-sub q (when t y) (when s y),
      )

  abbrev pub mixed : List ℤ → List ℤ → List ℤ
  mixed [] ys = []
  mixed (x ∷ xs) [] = []
  mixed (x ∷ xs) (y ∷ ys) = (p *ℤ x +ℤ q *ℤ y) ∷ mixed xs ys

  pub net_mixed : (R Q : Route → ℤ → Type 0) (f : Route → Route) (routes : List Route) (xs ys : List ℤ) (v : ℕ) → AllZip R routes xs → AllZip Q routes ys
      → net f routes (mixed xs ys) v ≡ p *ℤ net f routes xs v +ℤ q *ℤ net f routes ys v
  net_mixed R Q f [] xs ys v h k = omega (arith, ints, mul-zero p, mul-zero q)
  net_mixed R Q f (r ∷ routes) [] ys v h k = absurd h
  net_mixed R Q f (r ∷ routes) (x ∷ xs) [] v h k = absurd k
  net_mixed R Q f (r ∷ routes) (x ∷ xs) (y ∷ ys) v h k =
      omega (
        arith,
        ints,
        one_mixed (eqb (f r).tail v) (eqb (f r).head v) x y,
        net_mixed R Q f routes xs ys v h.1 k.1,
        mul-add p (when (eqb (f r).tail v) x -ℤ when (eqb (f r).head v) x) (net f routes xs v),
        mul-add q (when (eqb (f r).tail v) y -ℤ when (eqb (f r).head v) y) (net f routes ys v),
      )

  pub all_mixed : (R Q T : Route → ℤ → Type 0) (P : Route → Type 0) → ((r : Route) (x y : ℤ) → P r → R r x → Q r y → T r (p *ℤ x +ℤ q *ℤ y))
      → (routes : List Route) (xs ys : List ℤ) → All P routes → AllZip R routes xs → AllZip Q routes ys → AllZip T routes (mixed xs ys)
  all_mixed R Q T P e [] [] ys s h k = tt
  all_mixed R Q T P e [] (x ∷ xs) ys s h k = absurd h
  all_mixed R Q T P e (r ∷ routes) [] ys s h k = absurd h
  all_mixed R Q T P e (r ∷ routes) (x ∷ xs) [] s h k = absurd k
  all_mixed R Q T P e (r ∷ routes) (x ∷ xs) (y ∷ ys) s h k =
      (e r x y (All-head P r routes s) h.0 k.0, all_mixed R Q T P e routes xs ys (All-tail P r routes s) h.1 k.1)
