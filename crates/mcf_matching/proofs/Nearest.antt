-- Offers are taken out, the nearest first, until one is of use.
use Rattle.std.proofs.Common.{◌≡◌, ℕ, List, [], ◌∷◌, None, Some, ℤ, ◌≤ℤ◌, refl, sym, ap, subst}
use Rattle.std.proofs.Common.{arith, ◌⊎◌, inl, inr}
use Rattle.std.specs.List.{All, Contains}
use Rattle.std.specs.List.Sorted.{IsPermutation}
use Rattle.std.proofs.lemmas.Int.{ints}
use Rattle.std.proofs.lemmas.List.Elements.{All-contains, Contains-append_right}
use Rattle.std.proofs.lemmas.List.Sorted.{Contains-permutation, IsPermutation-sym}
use Rattle.mcf_flows.specs.Network.{IsNode, node_count}
use Rattle.mcf_network.specs.States.{Pseudoflow}
use Rattle.mcf_network.proofs.Lists.{Contains-cons}
use Rattle.mcf_offers.specs.Offers.{Offer}
use Rattle.mcf_matching.specs.Matchings.{IsPartialMatching, column_of}
use Rattle.mcf_matching.specs.Private.Searches.{IsBestUpTo, IsNearest, IsSearch, Search, Settled, Waits, forward, offer_of, queued}
use Rattle.mcf_matching.proofs.PairLaws.{column_is}
use Rattle.mcf_matching.proofs.Relaxing.{best_beyond, kept_ok, waits_fit, with_offers}
use Rattle.mcf_matching.proofs.Settling.{none_contained}

-- none waits
pub nearest_none : (s : Pseudoflow) (y : List ℤ) (q : Search) (source : ℕ) → q.queue ≡ [] → IsSearch s y q source [] → IsNearest s y source q None
nearest_none s y q source none search = (search, λ o w. let (i, h, e) = subst (λ (l : List Offer). Contains l o) none w in absurd (omega (arith, h)))

-- one is taken out
module _ (s : Pseudoflow) (y : List ℤ) (q : Search) (source : ℕ) (o : Offer) (list : List Offer) (out : IsPermutation q.queue (o ∷ list))
    (ok : IsPartialMatching s) (search : IsSearch s y q source []) where
  waited : Waits q o
  waited = Contains-permutation (o ∷ list) q.queue o (IsPermutation-sym q.queue (o ∷ list) out) (0, omega arith, refl)

  pub waited_column : IsNode (node_count s.net) o.column
  waited_column =
      let l = (search.waiting o waited).1 in
      subst (λ v. IsNode (node_count s.net) v) l.to (column_is s o.arc ok l.arc).0

  -- its arc is to be offered anew
  popped : IsSearch s y (queued q list) source (forward o.arc ∷ [])
  popped =
      with_offers s y q source [] search list q.best (forward o.arc ∷ [])
      (λ p w. waits_fit s y q source [] search list q.best p
      (Contains-permutation (o ∷ list) q.queue p (IsPermutation-sym q.queue (o ∷ list) out) (Contains-append_right (o ∷ []) list p w)))
      search.best
      (λ k arc h. elim (search.offers k arc h) [
        | inl (inl there) ↦ inl (inl there)
        | inl (inr (inr best)) ↦ inl (inr (inr best))
        | inl (inr (inl waits)) ↦ elim (Contains-cons o list (offer_of s y q k) (Contains-permutation q.queue (o ∷ list) (offer_of s y q k) out waits)) [
          | inl e ↦ inr (0, omega arith, ap (λ (p : Offer). forward p.arc) e)
          | inr still ↦ inl (inr (inl still))
        ]
        | inr none ↦ absurd (none_contained (forward k) none)
      ])

  -- it is of no use: its column is settled, or the target is no farther
  pub passed : Settled q o.column ⊎ IsBestUpTo q.best o.dist → IsSearch s y (queued q list) source []
  passed past =
      let l = (search.waiting o waited).1 in
      let gives = l.gives in
      kept_ok s y (queued q list) source o.arc [] popped (elim past [
        | inl settled ↦ (
            let there = subst (λ v. Settled q v) (sym l.to) settled in
            let far = search.level (column_of s o.arc) o (column_is s o.arc ok l.arc).0 there waited in
            inl (there, omega (arith, ints, far, gives)))
        | inr best ↦ inr (inr (subst (λ x. IsBestUpTo q.best x) gives best))
      ])

  module _ (least : All (λ (p : Offer). o.dist ≤ℤ p.dist) list) where
    first : (p : Offer) → Contains list p → o.dist ≤ℤ p.dist
    first p w = All-contains (λ (p : Offer). o.dist ≤ℤ p.dist) list p least w

    -- the target is no farther: the search is over
    pub nearest_over : IsBestUpTo q.best o.dist → IsNearest s y source (queued q list) None
    nearest_over best = (passed (inr best), λ p w. best_beyond q.best o.dist p.dist (first p w) best)

    -- it settles its column
    pub nearest_due : ¬ Settled q o.column → ((x : ℤ) → IsBestUpTo q.best x → o.dist ≤ℤ x) → IsNearest s y source (queued q list) (Some o)
    nearest_due fresh better =
        let (matched, l) = search.waiting o waited in (
          popped,
          record {
            matched = matched;
            fresh = fresh;
            predecessor = record { arc = l.arc; idle = l.idle; from = l.from; to = l.to; gives = l.gives };
            farthest = λ u n h. search.level u o n h waited;
            nearest = first;
            before_best = λ t e. better t.dist (subst (λ b. IsBestUpTo b t.dist) (sym e) (omega (arith, ints)));
          },
        )
