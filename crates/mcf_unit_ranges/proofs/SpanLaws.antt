-- The amounts of least reduced cost of a route are those that its span carries.
use Rattle.std.proofs.Common.{◌≡◌, ℕ, Bool, true, false, List, [], ◌∷◌, refl, ap, sym, ◌∙◌, subst, arith, ℤ, pos, neg_ℤ, ◌-ℤ◌, ◌≤ℤ◌, ◌<ℤ◌, if◌then◌else◌}
use Rattle.std.specs.Prelude.{Option, Some, None}
use Rattle.std.specs.Int.{int_min}
use Rattle.std.specs.Ordering.{int_eq}
use Rattle.std.proofs.Math.IntN.{◌*ℤ◌}
use Rattle.std.proofs.lemmas.Int.{ints, clamps, by_lt_z}
use Rattle.mcf_flows.specs.Network.{at_node}
use Rattle.mcf_flows.proofs.IntLaws.{mul-neg, mul-zero, mul_above_zero, sub-mul, zero-mul}
use Rattle.mcf_model.specs.declared.rows.Step.{Step}
use Rattle.mcf_model.specs.Model.{Adds, AreRooms, CostAtLeast, Fits, IsLimited, IsSoundRoute, MayBeBoth, MayCarry, Rises, Route, charge, charged, size}
use Rattle.mcf_model.specs.Prices.{IsBestAt, price_drop, reduced_route_cost}
use Rattle.mcf_unit_ranges.specs.Spans.{goes_back, span, span_of}
use Rattle.mcf_unit_ranges.proofs.OneWay.{drop, from_span, high, limited, low, made, to_high, to_low}
use Rattle.mcf_unit_ranges.proofs.CheapRooms.{IsAtMost, rooms_total}
use Rattle.mcf_unit_ranges.proofs.UnitCosts.{at_least, fits_less, is_below, is_not_below, no_less_above}

pub equal : (x y : ℤ) → x ≡ y → int_eq x y ≡ true
equal x y h = grind (arith, ints)

pub not_equal : (x y : ℤ) → y <ℤ x → int_eq x y ≡ false
not_equal x y h = grind (arith, ints)

-- ---- no cost is below 0

charge_zero : (steps : List Step) (most : Option ℤ) (c : ℤ) → AreRooms steps most → charge steps c (pos 0) ≡ pos 0
charge_zero [] most c h = mul-zero c
charge_zero (s ∷ steps) most c h =
    let none : int_min (pos 0) s.most ≡ pos 0 = omega (arith, ints, clamps, h.0) in
    let rest : pos 0 -ℤ pos 0 ≡ pos 0 = omega (arith, ints) in
    rw (none, rest) (omega (arith, ints, mul-zero s.cost, charge_zero steps most c h.1))

charge_at_least : (steps : List Step) (most : Option ℤ) (c x : ℤ) → AreRooms steps most → CostAtLeast (pos 0) steps c → Rises steps c → pos 0 ≤ℤ x
    → pos 0 ≤ℤ charge steps c x
charge_at_least steps most c x rooms least rises h =
    let le = no_less_above steps c (pos 0) (pos 0) rises x (at_least (pos 0) steps c (pos 0) least) h in
    omega (arith, ints, le, charge_zero steps most c rooms, zero-mul (pos 0), zero-mul x)

fits_zero : (steps : List Step) (most : Option ℤ) → AreRooms steps most → Fits steps most (pos 0)
fits_zero steps (Some m) rooms = rooms_total steps m rooms
fits_zero steps None rooms = tt

-- ---- limits as the room of a route without steps

to_fits : (o : Option ℤ) (x : ℤ) → IsAtMost x o → Fits [] o x
to_fits (Some m) x h = h
to_fits None x h = tt

from_fits : (o : Option ℤ) (x : ℤ) → Fits [] o x → IsAtMost x o
from_fits (Some m) x h = h
from_fits None x h = tt

-- ---- a route whose price doesn't rise, if it is used both ways

module _ (prices : List ℤ) (tail head : ℕ) (least : ℤ) (steps : List Step) (most : Option ℤ) (c : ℤ) (rises : Rises steps c) (adds : Adds steps most) where
  abbrev route : Bool → Route
  route both = made prices tail head least steps most c both

  abbrev z : ℤ
  z = drop prices tail head least steps most c

  -- its span, one way or both ways
  abbrev span_with : Bool → Route
  span_with both =
      record {
        tail = tail;
        head = head;
        least = low prices tail head least steps most c;
        steps = [];
        last_most = high prices tail head least steps most c;
        last_cost = pos 0;
        both = both;
      }

  one_way_to : (x : ℤ) → IsBestAt prices (route false) x → MayCarry (span_with false) x
  one_way_to x best =
      record {
        enough = to_low prices tail head least steps most c rises adds x best;
        fits = to_fits (high prices tail head least steps most c) x (to_high prices tail head least steps most c rises adds x best);
      }

  one_way_from : (x : ℤ) → (c <ℤ z → IsLimited most) → Fits steps most least → MayCarry (span_with false) x → IsBestAt prices (route false) x
  one_way_from x lim fits_least may =
      from_span prices tail head least steps most c rises adds x may.enough (from_fits (high prices tail head least steps most c) x may.fits) lim fits_least

  module _ (may_both : MayBeBoth true least steps most c) where
    none_least : least ≡ pos 0
    none_least = may_both.0

    free_zero : charge steps c (pos 0) ≡ pos 0
    free_zero = charge_zero steps most c may_both.2

    costs_some : (x : ℤ) → pos 0 ≤ℤ charge steps c (size x)
    costs_some x = charge_at_least steps most c (size x) may_both.2 may_both.1 rises (omega (arith, ints, clamps))

    may_rest : (x : ℤ) → Fits steps most (size x) → MayCarry (route true) x
    may_rest x fits = record { enough = omega (arith, ints, clamps, none_least); fits = fits }

    size_of : (x : ℤ) → pos 0 ≤ℤ x → size x ≡ x
    size_of x h = omega (arith, ints, clamps, h)

    rests : MayCarry (route true) (pos 0)
    rests = may_rest (pos 0) (subst (Fits steps most) (sym (size_of (pos 0) (omega (arith, ints)))) (fits_zero steps most may_both.2))

    -- where the price drops, nothing goes back
    not_back : pos 0 <ℤ z → (x : ℤ) → IsBestAt prices (route true) x → pos 0 ≤ℤ x
    not_back up x best =
        by_lt_z x (pos 0)
        (λ less.
        let le = best.best (pos 0) rests in
        let gain = mul_above_zero z (neg_ℤ x) up (omega (arith, ints, less)) in
        absurd (omega (arith, ints, le, gain, mul-neg z x, mul-zero z, costs_some x, free_zero, ap (charge steps c) (size_of (pos 0) (omega (arith, ints))))))
        (λ more. more)

    there_to : pos 0 <ℤ z → (x : ℤ) → IsBestAt prices (route true) x → IsBestAt prices (route false) x
    there_to up x best =
        let e = size_of x (not_back up x best) in
        record {
          may_carry = record { enough = omega (arith, ints, none_least, not_back up x best); fits = subst (Fits steps most) e best.may_carry.fits };
          best = λ y may.
              let enough = may.enough in
              let f = size_of y (omega (arith, ints, enough, none_least)) in
              let le = best.best y (may_rest y (subst (Fits steps most) (sym f) may.fits)) in
              omega (arith, ints, le, ap (charge steps c) e, ap (charge steps c) f);
        }

    there_from : pos 0 <ℤ z → (x : ℤ) → IsBestAt prices (route false) x → IsBestAt prices (route true) x
    there_from up x best =
        let enough = best.may_carry.enough in
        let e = size_of x (omega (arith, ints, enough, none_least)) in
        record {
          may_carry = may_rest x (subst (Fits steps most) (sym e) best.may_carry.fits);
          best = λ y may. by_lt_z y (pos 0)
              (λ less.
              let le = best.best (pos 0) (record { enough = omega (arith, ints, none_least); fits = fits_zero steps most may_both.2 }) in
              let gain = mul_above_zero z (neg_ℤ y) up (omega (arith, ints, less)) in
              omega (arith, ints, le, gain, mul-neg z y, mul-zero z, costs_some y, free_zero, ap (charge steps c) e))
              (λ more.
              let f = size_of y more in
              let le = best.best y (record { enough = omega (arith, ints, none_least, more); fits = subst (Fits steps most) f may.fits }) in
              omega (arith, ints, le, ap (charge steps c) e, ap (charge steps c) f));
        }

    -- where the price stays, as much may go back as goes there
    no_worth : z ≡ pos 0 → (x : ℤ) → z *ℤ x ≡ pos 0
    no_worth e x = ap (λ w. w *ℤ x) e ∙ zero-mul x

    either_to : z ≡ pos 0 → (x : ℤ) → IsBestAt prices (route true) x → IsBestAt prices (route false) (size x)
    either_to e x best =
        record {
          may_carry = record { enough = omega (arith, ints, clamps, none_least); fits = best.may_carry.fits };
          best = λ y may.
              let enough = may.enough in
              let f = size_of y (omega (arith, ints, enough, none_least)) in
              let le = best.best y (may_rest y (subst (Fits steps most) (sym f) may.fits)) in
              omega (arith, ints, le, no_worth e x, no_worth e y, no_worth e (size x), ap (charge steps c) f);
        }

    either_from : z ≡ pos 0 → (x : ℤ) → IsBestAt prices (route false) (size x) → IsBestAt prices (route true) x
    either_from e x best =
        record {
          may_carry = may_rest x best.may_carry.fits;
          best = λ y may.
              let le = best.best (size y) (record { enough = omega (arith, ints, clamps, none_least); fits = may.fits }) in
              omega (arith, ints, le, no_worth e x, no_worth e (size y), no_worth e (size x), no_worth e y);
        }

    both_to : pos 0 ≤ℤ z → (x : ℤ) → IsBestAt prices (route true) x → MayCarry (span_with (int_eq z (pos 0))) x
    both_to up x best =
        by_lt_z (pos 0) z
        (λ drops. subst (λ b. MayCarry (span_with b) x) (sym (not_equal z (pos 0) drops)) (one_way_to x (there_to drops x best)))
        (λ stays.
        let e : z ≡ pos 0 = omega (arith, ints, up, stays) in
        let may = one_way_to (size x) (either_to e x best) in
        subst (λ b. MayCarry (span_with b) x) (sym (equal z (pos 0) e)) (record { enough = may.enough; fits = may.fits }))

    -- one way, a route has a limit where it has to
    limited_both : pos 0 ≤ℤ z → (x : ℤ) → IsBestAt prices (route true) x → c <ℤ z → IsLimited most
    limited_both up x best =
        by_lt_z (pos 0) z
        (λ drops. limited prices tail head least steps most c rises adds x (there_to drops x best))
        (λ stays. limited prices tail head least steps most c rises adds (size x) (either_to (omega (arith, ints, up, stays)) x best))

    fits_least : Fits steps most least
    fits_least = subst (Fits steps most) (sym none_least) (fits_zero steps most may_both.2)

    both_from : pos 0 ≤ℤ z → (c <ℤ z → IsLimited most) → (x : ℤ) → MayCarry (span_with (int_eq z (pos 0))) x → IsBestAt prices (route true) x
    both_from up lim x may =
        by_lt_z (pos 0) z
        (λ drops.
        let there : MayCarry (span_with false) x = subst (λ b. MayCarry (span_with b) x) (not_equal z (pos 0) drops) may in
        there_from drops x (one_way_from x lim fits_least there))
        (λ stays.
        let e : z ≡ pos 0 = omega (arith, ints, up, stays) in
        let either : MayCarry (span_with true) x = subst (λ b. MayCarry (span_with b) x) (equal z (pos 0) e) may in
        either_from e x (one_way_from (size x) lim fits_least (record { enough = either.enough; fits = either.fits })))

-- ---- any route

-- the amount of the span for an amount of the route, and the other way round
abbrev pub span_amount : List ℤ → Route → ℤ → ℤ
span_amount prices r x = if goes_back prices r then neg_ℤ x else x

-- no unit without a limit costs less than the drop, and the least amount fits
pub record HasBest (prices : List ℤ) (r : Route) : Type 0 where
  pub limited : r.last_cost <ℤ charged r.both (price_drop prices r) → IsLimited r.last_most
  pub fits_least : Fits r.steps r.last_most r.least

module _ (prices : List ℤ) (least : ℤ) (steps : List Step) (most : Option ℤ) (c : ℤ) where
  same_size : (x : ℤ) → size (neg_ℤ x) ≡ size x
  same_size x = omega (arith, ints, clamps)

  turned_cost : (tail head : ℕ) (x : ℤ) → reduced_route_cost prices (made prices head tail least steps most c true) (neg_ℤ x)
      ≡ reduced_route_cost prices (made prices tail head least steps most c true) x
  turned_cost tail head x =
      let t = at_node prices tail in
      let h = at_node prices head in
      omega (arith, ints, ap (charge steps c) (same_size x), mul-neg (h -ℤ t) x, sub-mul h t x, sub-mul t h x)

  turned_may : (tail head : ℕ) (x : ℤ) → MayCarry (made prices tail head least steps most c true) x → MayCarry (made prices head tail least steps most c true) (neg_ℤ x)
  turned_may tail head x may =
      let enough = may.enough in
      record { enough = omega (arith, ints, enough, same_size x); fits = subst (Fits steps most) (sym (same_size x)) may.fits }

  turned_best : (tail head : ℕ) (x : ℤ) → IsBestAt prices (made prices tail head least steps most c true) x
      → IsBestAt prices (made prices head tail least steps most c true) (neg_ℤ x)
  turned_best tail head x best =
      record {
        may_carry = turned_may tail head x best.may_carry;
        best = λ y may.
            let le = best.best (neg_ℤ y) (turned_may head tail y may) in
            omega (arith, ints, le, turned_cost tail head x, turned_cost head tail y);
      }

  module _ (tail head : ℕ) (rises : Rises steps c) (adds : Adds steps most) where
    abbrev from_here : Bool → Route
    from_here both = made prices tail head least steps most c both

    abbrev d : ℤ
    d = drop prices tail head least steps most c

    backwards : d <ℤ pos 0 → pos 0 ≤ℤ drop prices head tail least steps most c
    backwards less = omega (arith, ints, less)

    to_by : (both : Bool) → MayBeBoth both least steps most c → (x : ℤ) → IsBestAt prices (from_here both) x
        → MayCarry (span prices (from_here both)) (span_amount prices (from_here both) x)
    to_by false may x best = one_way_to prices tail head least steps most c rises adds x best
    to_by true may x best =
        by_lt_z d (pos 0)
        (λ less. subst (λ b. MayCarry (span_of prices (if b then made prices head tail least steps most c true else from_here true)) (if b then neg_ℤ x else x))
        (sym (is_below d (pos 0) less))
        (both_to prices head tail least steps most c rises adds may (backwards less) (neg_ℤ x) (turned_best tail head x best)))
        (λ more. subst (λ b. MayCarry (span_of prices (if b then made prices head tail least steps most c true else from_here true)) (if b then neg_ℤ x else x))
        (sym (is_not_below d (pos 0) more))
        (both_to prices tail head least steps most c rises adds may more x best))

    from_by : (both : Bool) → MayBeBoth both least steps most c → HasBest prices (from_here both) → (x : ℤ) → MayCarry (span prices (from_here both)) x
        → IsBestAt prices (from_here both) (span_amount prices (from_here both) x)
    from_by false may has x it = one_way_from prices tail head least steps most c rises adds x has.limited has.fits_least it
    from_by true may has x it =
        by_lt_z d (pos 0)
        (λ less.
        let e = is_below d (pos 0) less in
        let back : size d ≡ drop prices head tail least steps most c = omega (arith, ints, clamps, less) in
        let there : MayCarry (span_of prices (made prices head tail least steps most c true)) x =
        subst (λ b. MayCarry (span_of prices (if b then made prices head tail least steps most c true else from_here true)) x) e it in
        subst (λ b. IsBestAt prices (from_here true) (if b then neg_ℤ x else x)) (sym e)
        (turned_best head tail x (both_from prices head tail least steps most c rises adds may (backwards less)
        (λ low. has.limited (omega (arith, ints, low, back))) x there)))
        (λ more.
        let e = is_not_below d (pos 0) more in
        let same : size d ≡ d = omega (arith, ints, clamps, more) in
        let there : MayCarry (span_of prices (from_here true)) x =
        subst (λ b. MayCarry (span_of prices (if b then made prices head tail least steps most c true else from_here true)) x) e it in
        subst (λ b. IsBestAt prices (from_here true) (if b then neg_ℤ x else x)) (sym e)
        (both_from prices tail head least steps most c rises adds may more
        (λ low. has.limited (omega (arith, ints, low, same))) x there))

    has_by : (both : Bool) → MayBeBoth both least steps most c → (x : ℤ) → IsBestAt prices (from_here both) x → HasBest prices (from_here both)
    has_by false may x best =
        record {
          limited = limited prices tail head least steps most c rises adds x best;
          fits_least = fits_less steps most x least best.may_carry.fits best.may_carry.enough;
        }
    has_by true may x best =
        record {
          limited = λ low. by_lt_z d (pos 0)
              (λ less. limited_both prices head tail least steps most c rises adds may (backwards less) (neg_ℤ x) (turned_best tail head x best)
              (let back : size d ≡ drop prices head tail least steps most c = omega (arith, ints, clamps, less) in omega (arith, ints, low, back)))
              (λ more. limited_both prices tail head least steps most c rises adds may more x best
              (let same : size d ≡ d = omega (arith, ints, clamps, more) in omega (arith, ints, low, same)));
          fits_least = fits_least prices tail head least steps most c rises adds may;
        }

module _ (places : ℕ) (prices : List ℤ) (r : Route) (sound : IsSoundRoute places r) where
  -- an amount of least reduced cost is one that the span carries
  pub to_span : (x : ℤ) → IsBestAt prices r x → MayCarry (span prices r) (span_amount prices r x)
  to_span x best = to_by prices r.least r.steps r.last_most r.last_cost r.tail r.head sound.rises sound.adds r.both sound.may_be_both x best

  -- and the other way round
  pub of_span : HasBest prices r → (x : ℤ) → MayCarry (span prices r) x → IsBestAt prices r (span_amount prices r x)
  of_span has x may = from_by prices r.least r.steps r.last_most r.last_cost r.tail r.head sound.rises sound.adds r.both sound.may_be_both has x may

  pub has_best : (x : ℤ) → IsBestAt prices r x → HasBest prices r
  has_best x best = has_by prices r.least r.steps r.last_most r.last_cost r.tail r.head sound.rises sound.adds r.both sound.may_be_both x best

pub twice : (prices : List ℤ) (r : Route) (x : ℤ) → span_amount prices r (span_amount prices r x) ≡ x
twice prices r x = go (goes_back prices r)
  where
    go : (b : Bool) → (if b then neg_ℤ (if b then neg_ℤ x else x) else (if b then neg_ℤ x else x)) ≡ x
    go true = omega (arith, ints)
    go false = refl
