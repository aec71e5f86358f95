-- What the nodes of a partial matching have left: a matched node nothing, a row that is not matched
-- 1, a column -1.
use Rattle.std.proofs.Common.{◌≡◌, ◌≢◌, ℕ, ◌+◌, ◌-◌, ◌<◌, ◌≤◌, zero, suc, Bool, true, false, eqb, List, [], None, length, get_or, ℤ, pos, neg_ℤ, ◌≤ℤ◌, sym, ◌∙◌}
use Rattle.std.proofs.Common.{ap, subst, arith, ◌⊎◌, inl, inr}
use Rattle.std.specs.List.{AllZip}
use Rattle.std.proofs.lemmas.Bool.{cases_eq}
use Rattle.std.proofs.lemmas.Int.{ints, by_lt_z}
use Rattle.std.proofs.lemmas.List.{get_or_default}
use Rattle.mcf_flows.specs.declared.arc.Arc.{Arc}
use Rattle.mcf_flows.specs.Blocking.{in_table}
use Rattle.mcf_flows.specs.Flow.{IsComplementary, Shows, net}
use Rattle.mcf_flows.specs.Network.{IsArcNumber, IsNode, flow_sum, node_count, when}
use Rattle.mcf_flows.proofs.AllZips.{AllZip_from}
use Rattle.mcf_flows.proofs.ArcSums.{flow_sum-same_at, flow_sum-zero}
use Rattle.mcf_network.specs.Residual.{arc_at, head, no_arc, tail}
use Rattle.mcf_network.specs.States.{Pseudoflow, amount_at, pushed, surplus_at}
use Rattle.mcf_network.specs.Stuck.{IsStuck}
use Rattle.mcf_network.specs.Walks.{HasRoom}
use Rattle.mcf_network.proofs.ArcLaws.{amount_count}
use Rattle.mcf_network.proofs.StateLaws.{pushed_surplus, rid, when-other, when-same, when-zero}
use Rattle.mcf_offers.specs.Offers.{Offer}
use Rattle.mcf_matching.specs.Matchings.{AreMatchingPrices, IsColumn, IsMatchedColumn, IsMatchedRow, IsPair, IsPartialMatching, IsRow, column_of, row_of}
use Rattle.mcf_matching.specs.Private.Searches.{IsBestUpTo, IsSearch, Search, Settled, Waits, offer, offer_of}
use Rattle.mcf_matching.proofs.PairLaws.{amount_is, assignment_of, column_is, pairing_at, row_is, row_column}
use Rattle.mcf_matching.proofs.Pairing.{column_out, row_out, unpaired_ok}
use Rattle.mcf_matching.proofs.Settling.{none_contained}

-- a fact of each arc and its amount
pub each_pair : (R : Arc → ℤ → Type 0) (s : Pseudoflow) → IsPartialMatching s → ((k : ℕ) → IsArcNumber s.net k → R (arc_at s.net k) (amount_at s k))
    → AllZip R s.net.arcs s.amounts
each_pair R s ok at =
    AllZip_from R s.net.arcs s.amounts (amount_count s ok.flow) (λ i h a f.
    let here : IsArcNumber s.net (i + 1) = (omega arith, omega arith) in
    let same : i ≡ i + 1 - 1 = omega arith in
    let inside : i < length s.amounts = omega (arith, h, amount_count s ok.flow) in
    let arc = get_or_default s.net.arcs i a no_arc h ∙ ap (λ j. get_or s.net.arcs j no_arc) same in
    let amount = get_or_default s.amounts i f (pos 0) inside ∙ ap (λ j. get_or s.amounts j (pos 0)) same in
    rw (arc, amount) (at (i + 1) here))

-- what arcs carry to one of their ends, where none has the amount 1
none_at : (s : Pseudoflow) (v : ℕ) (end : Arc → ℕ) → IsPartialMatching s → ((k : ℕ) → IsPair s k → end (arc_at s.net k) ≢ v)
    → flow_sum (λ a f. when (eqb (end a) v) f) s.net.arcs s.amounts ≡ pos 0
none_at s v end ok none =
    flow_sum-same_at (λ a f. when (eqb (end a) v) f ≡ pos 0) (λ a f. when (eqb (end a) v) f) (λ a f. pos 0) (λ a f h. h) s.net.arcs s.amounts
    (each_pair (λ a f. when (eqb (end a) v) f ≡ pos 0) s ok (λ k h. elim (amount_is s k ok h) [
      | inl e ↦ ap (when (eqb (end (arc_at s.net k)) v)) e ∙ when-zero (eqb (end (arc_at s.net k)) v)
      | inr p ↦ when-other (end (arc_at s.net k)) v (amount_at s k) (λ e. none k p (sym e))
    ])) ∙ flow_sum-zero s.net.arcs s.amounts

-- a node at which no arc has the amount 1 has net 0
net_none : (s : Pseudoflow) (v : ℕ) → IsPartialMatching s → ((k : ℕ) → IsPair s k → (row_of s k ≢ v) × (column_of s k ≢ v)) → net s.net.arcs s.amounts v ≡ pos 0
net_none s v ok none =
    let out = none_at s v (λ a. a.src) ok (λ k p. (none k p).0) in
    let into = none_at s v (λ a. a.dst) ok (λ k p. (none k p).1) in
    omega (arith, ints, out, into)

pub free_row : (s : Pseudoflow) (v : ℕ) → IsPartialMatching s → IsRow s v → ¬ IsMatchedRow s v → surplus_at s v ≡ pos 1
free_row s v ok row free =
    let none = net_none s v ok (λ k p. (λ e. free (k, p, e), λ e. row_column s v (column_of s k) row (column_is s k ok p.arc) (sym e))) in
    let one = row.1 in
    omega (arith, ints, none, one)

pub free_column : (s : Pseudoflow) (v : ℕ) → IsPartialMatching s → IsColumn s v → ¬ IsMatchedColumn s v → surplus_at s v ≡ neg_ℤ (pos 1)
free_column s v ok column free =
    let none = net_none s v ok (λ k p. (λ e. row_column s (row_of s k) v (row_is s k ok p.arc) column e, λ e. free (k, p, e))) in
    let less = column.1 in
    omega (arith, ints, none, less)

pub matched_row : (s : Pseudoflow) (v : ℕ) → IsPartialMatching s → IsRow s v → IsMatchedRow s v → surplus_at s v ≡ pos 0
matched_row s v ok row (j, p, e) =
    let alone = free_row (pushed s (rid j true) (pos 1)) v (unpaired_ok s j ok p).matching row (row_out s j v ok p e) in
    let moved = pushed_surplus s j true (pos 1) ok.flow p.arc v in
    let from = when-other (column_of s j) v (pos 1) (row_column s v (column_of s j) row (column_is s j ok p.arc)) in
    let to = when-same (row_of s j) v (pos 1) (sym e) in
    omega (arith, ints, alone, moved, from, to)

pub matched_column : (s : Pseudoflow) (v : ℕ) → IsPartialMatching s → IsColumn s v → IsMatchedColumn s v → surplus_at s v ≡ pos 0
matched_column s v ok column (j, p, e) =
    let alone = free_column (pushed s (rid j true) (pos 1)) v (unpaired_ok s j ok p).matching column (column_out s j v ok p e) in
    let moved = pushed_surplus s j true (pos 1) ok.flow p.arc v in
    let from = when-same (column_of s j) v (pos 1) (sym e) in
    let to = when-other (row_of s j) v (pos 1) (λ f. row_column s (row_of s j) v (row_is s j ok p.arc) column (sym f)) in
    omega (arith, ints, alone, moved, from, to)

-- ---- a node is matched or it is not

end_up_to : (s : Pseudoflow) (end : ℕ → ℕ) (v : ℕ) → IsPartialMatching s → (n : ℕ)
    → ((k : ℕ) × IsPair s k × (end k ≡ v)) ⊎ ((k : ℕ) → k ≤ n → IsPair s k → end k ≢ v)
end_up_to s end v ok zero = inr (λ k l p. let h = p.arc in absurd (omega (arith, h, l)))
end_up_to s end v ok (suc n) =
    elim (end_up_to s end v ok n) [
      | inl m ↦ inl m
      | inr none ↦ by_lt_z (pos n) (pos (length s.net.arcs)) (λ inside.
          let here : IsArcNumber s.net (suc n) = (omega arith, omega (arith, ints, inside)) in
          elim (amount_is s (suc n) ok here) [
            | inl e ↦ inr (λ k l p. elim (cases_eq k (suc n)) [
              | inl f ↦ absurd (let one = p.one in let same = ap (amount_at s) f in omega (arith, ints, one, same, e))
              | inr m ↦ none k (omega (arith, l, m)) p
            ])
            | inr q ↦ elim (cases_eq (end (suc n)) v) [
              | inl e ↦ inl (suc n, q, e)
              | inr m ↦ inr (λ k l p. elim (cases_eq k (suc n)) [
                | inl f ↦ (λ e. m (ap end (sym f) ∙ e))
                | inr m' ↦ none k (omega (arith, l, m')) p
              ])
            ]
          ]) (λ past. inr (λ k l p. let h = p.arc in none k (omega (arith, ints, h, past)) p))
    ]

end_or_not : (s : Pseudoflow) (end : ℕ → ℕ) (v : ℕ) → IsPartialMatching s → ((k : ℕ) × IsPair s k × (end k ≡ v)) ⊎ (((k : ℕ) × IsPair s k × (end k ≡ v)) → ⊥)
end_or_not s end v ok =
    elim (end_up_to s end v ok (length s.net.arcs)) [
      | inl m ↦ inl m
      | inr none ↦ inr (λ h. (let p = h.1 in let arc = p.arc in none h.0 (omega (arith, arc)) p h.2))
    ]

pub row_matched_or_not : (s : Pseudoflow) (v : ℕ) → IsPartialMatching s → IsMatchedRow s v ⊎ (¬ IsMatchedRow s v)
row_matched_or_not s v ok = end_or_not s (row_of s) v ok

pub column_matched_or_not : (s : Pseudoflow) (v : ℕ) → IsPartialMatching s → IsMatchedColumn s v ⊎ (¬ IsMatchedColumn s v)
column_matched_or_not s v ok = end_or_not s (column_of s) v ok

row_surplus : (s : Pseudoflow) (v : ℕ) → IsPartialMatching s → IsRow s v → pos 0 ≤ℤ surplus_at s v
row_surplus s v ok row =
    elim (row_matched_or_not s v ok) [
      | inl m ↦ (let none = matched_row s v ok row m in omega (arith, ints, none))
      | inr f ↦ (let one = free_row s v ok row f in omega (arith, ints, one))
    ]

-- a column has nothing left, or takes 1
pub column_surplus : (s : Pseudoflow) (v : ℕ) → IsPartialMatching s → IsColumn s v → (neg_ℤ (pos 1) ≤ℤ surplus_at s v) × (surplus_at s v ≤ℤ pos 0)
column_surplus s v ok column =
    elim (column_matched_or_not s v ok) [
      | inl m ↦ (let none = matched_column s v ok column m in (omega (arith, ints, none), omega (arith, ints, none)))
      | inr f ↦ (let less = free_column s v ok column f in (omega (arith, ints, less), omega (arith, ints, less)))
    ]

-- a node is a row or a column
pub row_or_column : (s : Pseudoflow) (v : ℕ) → IsPartialMatching s → IsNode (node_count s.net) v → IsRow s v ⊎ IsColumn s v
row_or_column s v ok n =
    elim ((assignment_of s.net ok.flow.of_net ok.problem).each_supply (v - 1) (pos 0) (omega (arith, n))) [
      | inl e ↦ inl (n, e)
      | inr e ↦ inr (n, e)
    ]

-- ---- what the prices of a matching show

pub matching_shown : (s : Pseudoflow) (y : List ℤ) → IsPartialMatching s → AreMatchingPrices s y → Shows s.net.arcs y s.amounts
matching_shown s y ok shown =
    each_pair (IsComplementary y) s ok (λ k h.
    let low = shown.low k h in
    let none = (pairing_at s k ok h).low_is in
    elim (amount_is s k ok h) [
      | inl e ↦ (λ p. e ∙ sym none, λ p. absurd (omega (arith, ints, low, p)))
      | inr q ↦ (let tight = shown.tight k q in (λ p. absurd (omega (arith, ints, tight, p)), λ p. absurd (omega (arith, ints, low, p))))
    ])

-- ---- a search that found no column that is not matched

pub search_stuck : (s : Pseudoflow) (y : List ℤ) (q : Search) (source : ℕ) → IsPartialMatching s → IsSearch s y q source [] → q.best ≡ None
    → ((o : Offer) → ¬ Waits q o) → IsStuck s (in_table q.settled)
search_stuck s y q source ok search none idle =
    record {
      closed = λ r room h. closed r.arc r.back room h;
      no_deficit = no_deficit;
      source = (source, search.is_row.0, search.source_settled, (let one = free_row s source ok search.is_row search.not_matched in omega (arith, ints, one)));
    }
  where
    closed : (k : ℕ) (b : Bool) → HasRoom s (rid k b) → Settled q (tail s.net (rid k b)) → Settled q (head s.net (rid k b))
    closed k true room h =
        elim (amount_is s k ok room.arc) [
          | inl e ↦ absurd (let some = room.room in omega (arith, ints, some, e))
          | inr p ↦ search.partners k p h
        ]
    closed k false room h =
        elim (search.offers k room.arc h) [
          | inr has ↦ absurd (none_contained (rid k false) has)
          | inl (inl (settled, less)) ↦ settled
          | inl (inr (inl waits)) ↦ absurd (idle (offer_of s y q k) waits)
          | inl (inr (inr best)) ↦ absurd (subst (λ b. IsBestUpTo b (offer s y q k)) none best)
        ]

    no_deficit : (v : ℕ) → IsNode (node_count s.net) v → Settled q v → pos 0 ≤ℤ surplus_at s v
    no_deficit v n h =
        elim (row_or_column s v ok n) [
          | inl row ↦ row_surplus s v ok row
          | inr column ↦ (let none = matched_column s v ok column (search.settled_columns v column h).0 in omega (arith, ints, none))
        ]
