-- What a table with a gap reads and writes, by the numbers that it stores.
use Rattle.std.proofs.Common.{◌≡◌, ℕ, zero, suc, ◌+◌, ◌*◌, ◌<◌, ◌≤◌, Bool, true, false, eqb, List, [], ◌∷◌, length, map, get_or, refl, ap, sym, ◌∙◌, arith, subst}
use Rattle.std.proofs.Common.{ℤ, pos, neg_ℤ, ◌+ℤ◌, ◌-ℤ◌, Option, Some, None}
use Rattle.std.specs.Prelude.{count_by, if◌then◌else◌, nat_lt}
use Rattle.std.specs.List.{range_with_len}
use Rattle.std.proofs.lemmas.Int.{ints}
use Rattle.std.proofs.lemmas.List.{length-map}
use Rattle.mcf_flows.specs.Network.{Network, node_count, when}
use Rattle.mcf_flows.specs.WellFormed.{IsUpTo}
use Rattle.mcf_basis.specs.declared.offer.ArcOffer.{ArcOffer}
use Rattle.mcf_basis.specs.Artificial.{artificial_cost, is_sender}
use Rattle.mcf_basis.specs.Private.Gaps.{IsSpread, change_by, price_by, stand_in}
use Rattle.mcf_basis.specs.Private.Layouts.{Prices, change_limit, narrow_limit, no_offer, prices_of_star}
use Rattle.mcf_basis.specs.Private.Offered.{CanCompare, CanCompareIn, HasOwnEnds, HasPricedEnds, IsLeastOffer, reduced_by, reduced_of}
use Rattle.mcf_basis.specs.Private.Offered.HasOwnEnds.{nodes, nothing}
use Rattle.mcf_basis.specs.Private.Turned.{AreRaised, CanRaise, CanReprice}
use Rattle.mcf_basis.specs.Starts.{start_prices}
use Rattle.mcf_basis.proofs.Gaps.{moved_less, moved_most, moved_zero, raised_shown, reduced_shown, stored_fits}

-- a table in 64 bits
abbrev pub narrow_table : ℕ → ℕ → List ℤ → Prices
narrow_table gap priced stored =
    record { prices = map (price_by gap) stored; priced = priced; limit = narrow_limit + gap; gap = gap }

-- a price is that which is stored, moved out
pub price_read : (gap : ℕ) (stored : List ℤ) (v : ℕ) → get_or (map (price_by gap) stored) v (pos 0) ≡ price_by gap (get_or stored v (pos 0))
price_read gap [] v = sym (moved_zero 0 gap)
price_read gap (s ∷ stored) zero = refl
price_read gap (s ∷ stored) (suc v) = price_read gap stored v

-- ---- offers

module _ (gap priced : ℕ) (stored : List ℤ) (offers : List ArcOffer) (can : CanCompareIn (narrow_table gap priced stored) offers) where
  sizes : length (map (price_by gap) stored) ≡ length stored
  sizes = length-map stored (price_by gap)

  ends_of : (i : ℕ) → i < length offers → HasPricedEnds (length stored) (get_or offers i no_offer)
  ends_of i high = subst (λ n. HasPricedEnds n (get_or offers i no_offer)) sizes (can.compared.ends i high)

  pub can_compare_stored : CanCompare stored narrow_limit offers
  can_compare_stored = record {
    ends = ends_of;
    small = λ v h. (let small = can.compared.small v (omega (arith, sizes, h)) in
        stored_fits narrow_limit gap (get_or stored v (pos 0)) (subst (IsUpTo (narrow_limit + gap)) (price_read gap stored v) small));
  }

  shown_by : (o : ArcOffer) → HasPricedEnds (length stored) o → HasOwnEnds o → reduced_by (map (price_by gap) stored) o ≡ change_by gap (reduced_by stored o)
  shown_by o ends (nodes from to) =
      let p = subst (IsSpread gap) (price_read gap stored o.from) (can.spread o.from from (omega (arith, sizes, ends.from))) in
      let q = subst (IsSpread gap) (price_read gap stored o.to) (can.spread o.to to (omega (arith, sizes, ends.to))) in
      ap (λ z. o.cost -ℤ z +ℤ get_or (map (price_by gap) stored) o.to (pos 0)) (price_read gap stored o.from)
      ∙ (ap (λ z. o.cost -ℤ price_by gap (get_or stored o.from (pos 0)) +ℤ z) (price_read gap stored o.to)
      ∙ reduced_shown gap o.cost (get_or stored o.from (pos 0)) (get_or stored o.to (pos 0)) ends.cost p q)
  shown_by o ends (nothing is) =
      rw is (none (get_or (map (price_by gap) stored) 0 (pos 0)) ∙ (sym (moved_zero stand_in (2 * gap))
      ∙ ap (change_by gap) (sym (none (get_or stored 0 (pos 0))))))
    where
      none : (z : ℤ) → pos 0 -ℤ z +ℤ z ≡ pos 0
      none z = omega (arith, ints)

  shown : (i : ℕ) → i < length offers → reduced_of (map (price_by gap) stored) offers i ≡ change_by gap (reduced_of stored offers i)
  shown i high = shown_by (get_or offers i no_offer) (ends_of i high) (can.own i high)

  -- the least of the stored ones is the least
  pub least_stored : (begin end : ℕ) → end ≤ length offers → (r : Option ℕ) → IsLeastOffer stored offers begin end r → IsLeastOffer (map (price_by gap) stored) offers begin end r
  least_stored begin end all (Some i) found =
      let here = shown i (omega (arith, found.high, all)) in
      let zero_is = moved_zero stand_in (2 * gap) in
      record {
        low = found.low;
        high = found.high;
        gains = (let lt = moved_less stand_in (2 * gap) (reduced_of stored offers i) (pos 0) found.gains in omega (arith, ints, here, zero_is, lt));
        least = λ j from to. (let there = shown j (omega (arith, to, all)) in
            let le = moved_most stand_in (2 * gap) (reduced_of stored offers i) (reduced_of stored offers j) (found.least j from to) in
            omega (arith, ints, here, there, le));
        first = λ j from to. (let there = shown j (omega (arith, to, found.high, all)) in
            let lt = moved_less stand_in (2 * gap) (reduced_of stored offers i) (reduced_of stored offers j) (found.first j from to) in
            omega (arith, ints, here, there, lt));
      }
  least_stored begin end all None none = λ j from to. (let there = shown j (omega (arith, to, all)) in
      let le = moved_most stand_in (2 * gap) (pos 0) (reduced_of stored offers j) (none j from to) in
      omega (arith, ints, there, moved_zero stand_in (2 * gap), le))

-- ---- changes

module _ (gap priced : ℕ) (stored : List ℤ) (part : List ℕ) (change : ℤ) (can : CanReprice part change (narrow_table gap priced stored)) where
  pub can_raise_stored : (d : ℤ) → IsUpTo (change_limit narrow_limit) d → CanRaise part d narrow_limit stored
  can_raise_stored d small = record {
    in_range = (let n = length-map stored (price_by gap) in λ k e h. (let a = can.raised.in_range k e h in omega (arith, n, a)));
    once = can.raised.once;
    small = λ v h. (let n = length-map stored (price_by gap) in let p = can.raised.small v (omega (arith, n, h)) in
        stored_fits narrow_limit gap (get_or stored v (pos 0)) (subst (IsUpTo (narrow_limit + gap)) (price_read gap stored v) p));
    change_small = small;
  }

  raised_at : (d s p : ℤ) (b : Bool) → change ≡ change_by gap d → p ≡ price_by gap s →
      (b ≡ true → IsSpread gap p) → (b ≡ true → IsSpread gap (p +ℤ change)) → price_by gap (s +ℤ when b d) ≡ p +ℤ when b change
  raised_at d s p true is at before after =
      let f : IsSpread gap (price_by gap s) = subst (IsSpread gap) at (before refl) in
      let g : IsSpread gap (price_by gap s +ℤ change_by gap d) = rw (at, is) at (after refl) in
      sym (raised_shown gap s d f g) ∙ (ap (λ z. z +ℤ change_by gap d) (sym at) ∙ ap (λ z. p +ℤ z) (sym is))
  raised_at d s p false is at before after =
      let n : s +ℤ pos 0 ≡ s = omega (arith, ints) in
      let m : p +ℤ pos 0 ≡ p = omega (arith, ints) in
      ap (price_by gap) n ∙ (sym at ∙ sym m)

  pub raised_stored : (d : ℤ) (after : List ℤ) → change ≡ change_by gap d → AreRaised part d stored after
      → AreRaised part change (map (price_by gap) stored) (map (price_by gap) after)
  raised_stored d after is raised = record {
    size = length-map after (price_by gap) ∙ (raised.size ∙ sym (length-map stored (price_by gap)));
    each = λ v. price_read gap after v ∙ (ap (price_by gap) (raised.each v)
        ∙ raised_at d (get_or stored v (pos 0)) (get_or (map (price_by gap) stored) v (pos 0)) (nat_lt 0 (count_by (λ u. eqb u v) part)) is
        (price_read gap stored v) (can.spread v) (can.still_spread v));
  }

-- ---- the star

star_read : (gap cost : ℕ) (b : Bool) → gap < cost
    → price_by gap (if b then pos cost -ℤ pos gap else neg_ℤ (pos cost -ℤ pos gap)) ≡ (if b then pos cost else neg_ℤ (pos cost))
star_read gap cost b h = grind (arith, ints)

stars_read : (gap : ℕ) (g : Network) (vs : List ℕ) → gap < artificial_cost g →
    map (price_by gap) (map (λ v. if is_sender g v then pos (artificial_cost g) -ℤ pos gap else neg_ℤ (pos (artificial_cost g) -ℤ pos gap)) vs)
    ≡ map (λ v. if is_sender g v then pos (artificial_cost g) else neg_ℤ (pos (artificial_cost g))) vs
stars_read gap g [] h = refl
stars_read gap g (v ∷ vs) h = rw (star_read gap (artificial_cost g) (is_sender g v) h, stars_read gap g vs h) refl

pub star_stored : (gap : ℕ) (g : Network) → gap < artificial_cost g →
    map (price_by gap) (prices_of_star g (pos (artificial_cost g) -ℤ pos gap)) ≡ start_prices g
star_stored gap g h = rw (moved_zero 0 gap, stars_read gap g (range_with_len 1 (node_count g)) h) refl
