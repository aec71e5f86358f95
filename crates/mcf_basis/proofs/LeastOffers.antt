-- The least of some values, place by place: where several are least, the first.
use Rattle.std.proofs.Common.{◌≡◌, Bool, None, ℕ, ◌+◌, ◌<◌, ◌≤◌, ◌-◌, ◌*◌, ◌/◌, ◌%◌, ◌^◌, true, false, inl, inr, List, get_or, length, refl, ap, arith, subst, sym, ℤ, pos, ◌<ℤ◌, ◌≤ℤ◌, ◌-ℤ◌, ◌∙◌}
use Rattle.std.specs.Ordering.{int_cmp, is_lt}
use Rattle.std.specs.Prelude.{if◌then◌else◌}
use Rattle.std.proofs.lemmas.Int.{ints}
use Rattle.std.proofs.lemmas.Bool.{cases_eq}
use Rattle.std.proofs.lemmas.List.{get_or_default}
use Rattle.mcf_flows.specs.WellFormed.{IsUpTo}
use Rattle.mcf_basis.specs.declared.offer.ArcOffer.{ArcOffer}
use Rattle.mcf_basis.specs.Private.Layouts.{limit_in, no_offer}
use Rattle.mcf_basis.specs.Private.Offered.{CanCompare, IsFirstLeast, IsLeastOffer, reduced_by, reduced_of}
use Rattle.mcf_basis.proofs.Gaps.{limit_fits}

-- nothing below 0 was met; or the value at a place was, and each one before it is greater
pub data IsFirstMet (value : ℕ → ℤ) (begin i place : ℕ) (least : ℤ) : Type 0 where
  nowhere : least ≡ pos 0 → IsFirstMet value begin i place least
  met : begin ≤ place → place < i → value place ≡ least → least <ℤ pos 0
      → ((j : ℕ) → begin ≤ j → j < place → least <ℤ value j) → IsFirstMet value begin i place least

-- the least of the values from place begin up to but not including i and 0, and the first place
-- that has it
pub record IsLeastSoFar (value : ℕ → ℤ) (begin i place : ℕ) (least : ℤ) : Type 0 where
  pub each : (j : ℕ) → begin ≤ j → j < i → least ≤ℤ value j
  pub first : IsFirstMet value begin i place least

pub less : (y z : ℤ) → is_lt (int_cmp y z) ≡ true → y <ℤ z
less y z h = grind (arith, ints)

pub not_less : (y z : ℤ) → is_lt (int_cmp y z) ≡ false → z ≤ℤ y
not_less y z h = grind (arith, ints)

module _ (value : ℕ → ℤ) (begin i place : ℕ) (least : ℤ) (in_order : begin ≤ i) (so : IsLeastSoFar value begin i place least) where
  low : least ≤ℤ pos 0
  low = elim so.first [
    | nowhere e ↦ omega (arith, ints, e)
    | met from to is neg before ↦ omega (arith, ints, neg)
  ]

  -- a value that is less takes over
  pub so_far-less : (now : ℤ) → now ≡ value i → is_lt (int_cmp now least) ≡ true → IsLeastSoFar value begin (i + 1) i now
  so_far-less now is t =
      let lt = less now least t in
      record {
        each = λ j from to. elim (cases_eq j i) [
          | inl e ↦ (let same : value j ≡ value i = ap value e in omega (arith, ints, same, is))
          | inr ne ↦ (let h = so.each j from (omega (arith, to, ne)) in omega (arith, ints, h, lt))
        ];
        first = met in_order (omega arith) (omega (arith, ints, is)) (omega (arith, ints, lt, low))
            (λ j from to. (let h = so.each j from to in omega (arith, ints, h, lt)));
      }

  -- one that isn't changes nothing
  pub so_far-same : (now : ℤ) → now ≡ value i → is_lt (int_cmp now least) ≡ false → IsLeastSoFar value begin (i + 1) place least
  so_far-same now is t = record {
    each = λ j from to. elim (cases_eq j i) [
      | inl e ↦ (let same : value j ≡ value i = ap value e in let ge = not_less now least t in omega (arith, ints, same, is, ge))
      | inr ne ↦ so.each j from (omega (arith, to, ne))
    ];
    first = elim so.first [
      | nowhere e ↦ nowhere e
      | met from to is neg before ↦ met from (omega (arith, to)) is neg before
    ];
  }

-- the value at the next place takes over if it is less
pub so_far_next : (value : ℕ → ℤ) (begin i place place' : ℕ) (least least' now : ℤ) → begin ≤ i → now ≡ value i
    → place' ≡ (if is_lt (int_cmp now least) then i else place) → least' ≡ (if is_lt (int_cmp now least) then now else least)
    → IsLeastSoFar value begin i place least → IsLeastSoFar value begin (i + 1) place' least'
so_far_next value begin i place place' least least' now order is at by so =
    subst (λ p. IsLeastSoFar value begin (i + 1) p least') (sym at) (subst (λ x. IsLeastSoFar value begin (i + 1) (if is_lt (int_cmp now least) then i else place) x) (sym by) (of (is_lt (int_cmp now least)) refl))
  where
    of : (t : Bool) → is_lt (int_cmp now least) ≡ t → IsLeastSoFar value begin (i + 1) (if t then i else place) (if t then now else least)
    of true h = so_far-less value begin i place least order so now is h
    of false h = so_far-same value begin i place least order so now is h

-- after all pairs of values, and after the last one if their number is odd
module _ (value : ℕ → ℤ) (begin end pair place : ℕ) (least : ℤ) (order : begin ≤ end) (all : (end - begin) / 2 ≤ pair) (in_range : pair ≤ (end - begin) / 2)
    (so : IsLeastSoFar value begin (begin + 2 * pair) place least) where
  pub so_far_even : ¬ ((end - begin) % 2 ≡ 1) → IsLeastSoFar value begin end place least
  so_far_even even = subst (λ n. IsLeastSoFar value begin n place least) (omega (arith, even, order, all, in_range)) so

  pub so_far_odd : (place' : ℕ) (least' now : ℤ) → (end - begin) % 2 ≡ 1 → now ≡ value (end - 1) → place' ≡ (if is_lt (int_cmp now least) then end - 1 else place) →
      least' ≡ (if is_lt (int_cmp now least) then now else least) → IsLeastSoFar value begin end place' least'
  so_far_odd place' least' now odd is at by =
      let last : begin + 2 * pair ≡ end - 1 = omega (arith, odd, order, all, in_range) in
      subst (λ n. IsLeastSoFar value begin n place' least') (omega (arith, odd, order))
      (so_far_next value begin (end - 1) place place' least least' now (omega (arith, last)) is at by
      (subst (λ n. IsLeastSoFar value begin n place least) last so))

-- where all values are passed
module _ (prices : List ℤ) (offers : List ArcOffer) (begin end place : ℕ) (least : ℤ) (so : IsLeastSoFar (reduced_of prices offers) begin end place least) where
  pub least_found : least <ℤ pos 0 → IsFirstLeast prices offers begin end place
  least_found neg = elim so.first [
    | nowhere e ↦ absurd (omega (arith, ints, e, neg))
    | met from to is gains before ↦ record {
      low = from;
      high = to;
      gains = omega (arith, ints, is, gains);
      least = λ j above below. (let e = so.each j above below in omega (arith, ints, is, e));
      first = λ j above below. (let lt = before j above below in omega (arith, ints, is, lt));
    }
  ]

  pub least_none : pos 0 ≤ℤ least → IsLeastOffer prices offers begin end None
  least_none ge j above below = let e = so.each j above below in omega (arith, ints, e, ge)

-- what is read of an offer, and that a width of this room holds its reduced cost
pub record IsReadAt (prices : List ℤ) (room : ℕ) (o : ArcOffer) : Type 0 where
  pub from : (z : ℤ) → z ≡ get_or prices o.from z → z ≡ get_or prices o.from (pos 0)
  pub to : (z : ℤ) → z ≡ get_or prices o.to z → z ≡ get_or prices o.to (pos 0)
  pub less_from : IsUpTo room (o.cost -ℤ get_or prices o.from (pos 0))
  pub reduced : IsUpTo room (reduced_by prices o)

pub read_at : (prices : List ℤ) (room : ℕ) (offers : List ArcOffer) (i : ℕ) → 2 ^ 63 - 1 ≤ room
    → CanCompare prices (limit_in room) offers → i < length offers → IsReadAt prices room (get_or offers i no_offer)
read_at prices room offers i least can high =
    let o = get_or offers i no_offer in
    let ends = can.ends i high in
    let cost = ends.cost in
    let from = can.small o.from ends.from in
    let to = can.small o.to ends.to in
    let fits = limit_fits room least in
    record {
      from = λ z is. is ∙ get_or_default prices o.from z (pos 0) ends.from;
      to = λ z is. is ∙ get_or_default prices o.to z (pos 0) ends.to;
      less_from = (omega (arith, ints, cost, from, fits), omega (arith, ints, cost, from, fits));
      reduced = (omega (arith, ints, cost, from, to, fits), omega (arith, ints, cost, from, to, fits));
    }
