-- The prices after a search: they show the matching as before, and the arcs that gave the distances
-- cost nothing.
use Rattle.std.proofs.Common.{◌≡◌, ℕ, Bool, true, false, List, [], Some, ℤ, pos, ◌≤ℤ◌, refl, sym, ◌∙◌, ap, subst, arith, ◌⊎◌, inl, inr}
use Rattle.std.proofs.lemmas.Int.{ints}
use Rattle.std.proofs.lemmas.Bool.{true≢false}
use Rattle.mcf_flows.specs.Blocking.{in_table}
use Rattle.mcf_flows.specs.Network.{IsArcNumber, IsNode, at_node, node_count}
use Rattle.mcf_network.specs.States.{Pseudoflow}
use Rattle.mcf_offers.specs.Offers.{Offer}
use Rattle.mcf_matching.specs.Private.Labels.{Target}
use Rattle.mcf_matching.specs.Matchings.{AreMatchingPrices, IsColumn, IsPair, IsPartialMatching, column_of, reduced, row_of}
use Rattle.mcf_matching.specs.Private.Searches.{AreRaised, Search, Settled, Waits, dist_at, predecessor_at, offer, offer_of, IsBestUpTo, IsSearch}
use Rattle.mcf_matching.proofs.PairLaws.{row_is, column_is}
use Rattle.mcf_matching.proofs.Settling.{none_contained}

pub settled_or_not : (q : Search) (v : ℕ) → Settled q v ⊎ (¬ Settled q v)
settled_or_not q v = on (in_table q.settled v) refl
  where
    on : (b : Bool) → in_table q.settled v ≡ b → Settled q v ⊎ (¬ Settled q v)
    on true e = inl e
    on false e = inr (λ h. absurd (true≢false (sym h ∙ e)))

module _ (s : Pseudoflow) (y z : List ℤ) (q : Search) (source : ℕ) (t : Target) (ok : IsPartialMatching s) (search : IsSearch s y q source [])
    (shown : AreMatchingPrices s y) (found : q.best ≡ Some t) (nearest : (o : Offer) → Waits q o → t.dist ≤ℤ o.dist)
    (raised : AreRaised s q t.dist y z) where
  near : (u : ℕ) → IsNode (node_count s.net) u → Settled q u → dist_at q u ≤ℤ t.dist
  near = (search.best t found).2

  -- an arc from a settled row to a column that is not offers no less than the distance of the
  -- target
  beyond : (k : ℕ) → IsArcNumber s.net k → Settled q (row_of s k) → ¬ Settled q (column_of s k) → t.dist ≤ℤ offer s y q k
  beyond k arc h n =
      elim (search.offers k arc h) [
        | inr none ↦ absurd (none_contained (record { arc = k; back = false }) none)
        | inl (inl (settled, less)) ↦ absurd (n settled)
        | inl (inr (inl waits)) ↦ nearest (offer_of s y q k) waits
        | inl (inr (inr best)) ↦ subst (λ b. IsBestUpTo b (offer s y q k)) found best
      ]

  -- and to a settled column no less than the column's distance
  within : (k : ℕ) → IsArcNumber s.net k → Settled q (row_of s k) → Settled q (column_of s k) → dist_at q (column_of s k) ≤ℤ offer s y q k
  within k arc h m =
      let column = column_is s k ok arc in
      elim (search.offers k arc h) [
        | inr none ↦ absurd (none_contained (record { arc = k; back = false }) none)
        | inl (inl (settled, less)) ↦ less
        | inl (inr (inl waits)) ↦ search.level (column_of s k) (offer_of s y q k) column.0 m waits
        | inl (inr (inr best)) ↦ (
            let far = near (column_of s k) column.0 m in
            let less = subst (λ b. IsBestUpTo b (offer s y q k)) found best in
            omega (arith, ints, far, less))
      ]

  low_now : (k : ℕ) → IsArcNumber s.net k → pos 0 ≤ℤ reduced s z k
  low_now k arc =
      let row = (row_is s k ok arc).0 in
      let column = (column_is s k ok arc).0 in
      let was = shown.low k arc in
      elim (settled_or_not q (row_of s k)) [
        | inl h ↦ (
            let zr = raised.settled (row_of s k) row h in
            elim (settled_or_not q (column_of s k)) [
              | inl m ↦ (
                  let zc = raised.settled (column_of s k) column m in
                  let less = within k arc h m in
                  omega (arith, ints, zr, zc, less))
              | inr n ↦ (
                  let zc = raised.others (column_of s k) column n in
                  let less = beyond k arc h n in
                  omega (arith, ints, zr, zc, less))
            ])
        | inr g ↦ (
            let zr = raised.others (row_of s k) row g in
            elim (settled_or_not q (column_of s k)) [
              | inl m ↦ (
                  let zc = raised.settled (column_of s k) column m in
                  let less = near (column_of s k) column m in
                  omega (arith, ints, zr, zc, less, was))
              | inr n ↦ (
                  let zc = raised.others (column_of s k) column n in
                  omega (arith, ints, zr, zc, was))
            ])
      ]

  tight_now : (k : ℕ) → IsPair s k → reduced s z k ≡ pos 0
  tight_now k p =
      let row = (row_is s k ok p.arc).0 in
      let column = (column_is s k ok p.arc).0 in
      let was = shown.tight k p in
      elim (settled_or_not q (row_of s k)) [
        | inl h ↦ (
            let both = search.pairs k p h in
            let same = both.1 in
            let zr = raised.settled (row_of s k) row h in
            let zc = raised.settled (column_of s k) column both.0 in
            omega (arith, ints, zr, zc, same, was))
        | inr g ↦ (
            let n : ¬ Settled q (column_of s k) = λ (m : Settled q (column_of s k)). g (search.partners k p m) in
            let zr = raised.others (row_of s k) row g in
            let zc = raised.others (column_of s k) column n in
            omega (arith, ints, zr, zc, was))
      ]

  pub raised_ok : AreMatchingPrices s z
  raised_ok =
      record {
        count = raised.count ∙ shown.count;
        low = low_now;
        tight = tight_now;
        columns = λ v h.
            let was = shown.columns v h in
            elim (settled_or_not q v) [
              | inl m ↦ (
                  let zv = raised.settled v h.0 m in
                  let less = near v h.0 m in
                  omega (arith, ints, zv, less, was))
              | inr n ↦ (let zv = raised.others v h.0 n in omega (arith, ints, zv, was))
            ];
        free = λ v h none. raised.others v h.0 (λ m. none (search.settled_columns v h m).0) ∙ shown.free v h none;
      }

  -- the arc that gave a settled column its distance costs nothing now
  pub predecessor_tight : (v : ℕ) → IsColumn s v → Settled q v → reduced s z (predecessor_at q v) ≡ pos 0
  predecessor_tight v h m =
      let l = (search.settled_columns v h m).1 in
      let row = (row_is s (predecessor_at q v) ok l.arc).0 in
      let zr = raised.settled (row_of s (predecessor_at q v)) row l.from in
      let zc = raised.settled v h.0 m in
      let to = ap (at_node z) l.to in
      let from = ap (at_node y) l.to in
      let gives = l.gives in
      omega (arith, ints, zr, zc, to, from, gives)

  -- and so does the last arc of the walk to the target
  pub target_tight : reduced s z t.arc ≡ pos 0
  target_tight =
      let found' = search.best t found in
      let l = found'.0 in
      let row = (row_is s t.arc ok l.arc).0 in
      let column = column_is s t.arc ok l.arc in
      let zr = raised.settled (row_of s t.arc) row l.from in
      let zc = raised.others (column_of s t.arc) column.0 (λ m. found'.1 (search.settled_columns (column_of s t.arc) column m).0) in
      let gives = l.gives in
      omega (arith, ints, zr, zc, gives)
