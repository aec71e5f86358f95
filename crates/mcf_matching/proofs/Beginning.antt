-- A search begins at a row that is not matched, and what follows where it is over.
use Rattle.std.proofs.Common.{◌≡◌, ◌≢◌, ℕ, ◌+◌, ◌-◌, ◌<◌, ◌≤◌, zero, suc, Bool, true, false, List, [], ◌∷◌, length, replicate, get_or, None, Some, ℤ, pos, refl, sym, ◌∙◌, ap, subst}
use Rattle.std.proofs.Common.{arith, ◌⊎◌, inl, inr, length-set}
use Rattle.std.specs.List.{Contains}
use Rattle.std.proofs.lemmas.Bool.{true≢false}
use Rattle.std.proofs.lemmas.Int.{ints}
use Rattle.mcf_flows.specs.Blocking.{in_table}
use Rattle.mcf_flows.specs.Network.{IsNode, at_node, node_count}
use Rattle.mcf_network.specs.NodeSets.{member_count}
use Rattle.mcf_network.specs.States.{Pseudoflow}
use Rattle.mcf_network.specs.Stuck.{IsStuck}
use Rattle.mcf_network.proofs.Marks.{count_none, counted_new, read_node}
use Rattle.mcf_offers.specs.Offers.{Offer}
use Rattle.mcf_matching.specs.Private.Labels.{Target}
use Rattle.mcf_matching.specs.Matchings.{IsMatchedRow, IsPartialMatching, IsRow, column_of, row_of}
use Rattle.mcf_matching.specs.Private.Forests.{IsOrder}
use Rattle.mcf_matching.specs.Private.Keeping.{IsReady}
use Rattle.mcf_matching.specs.Private.Searches.{HasEntries, IsBestUpTo, IsOver, IsSearch, Search, Settled, Waits, begun, dist_at}
use Rattle.mcf_matching.proofs.PairLaws.{column_is, row_column, row_is}
use Rattle.mcf_matching.proofs.Surpluses.{search_stuck}

-- a table that marks nothing counts nothing
none_counted : (t : List Bool) → ((v : ℕ) → in_table t v ≡ false) → member_count t ≡ 0
none_counted t h =
    ap member_count (all_false t (λ i. ap (λ j. get_or t j false) (let e : i ≡ i + 1 - 1 = omega arith in e) ∙ h (i + 1))) ∙ count_none (length t)
  where
    all_false : (t : List Bool) → ((i : ℕ) → get_or t i false ≡ false) → t ≡ replicate (length t) false
    all_false [] h = refl
    all_false (b ∷ t) h = ap (λ x. x ∷ t) (h zero) ∙ ap (λ x. false ∷ x) (all_false t (λ i. h (suc i)))

-- only the source is settled
module _ (s : Pseudoflow) (q : Search) (source : ℕ) (ok : IsPartialMatching s) (entries : HasEntries (node_count s.net) q) (row : IsRow s source)
    (free : ¬ IsMatchedRow s source) (unsettled : (v : ℕ) → in_table q.settled v ≡ false) where
  abbrev now : Search
  now = begun q source

  node : IsNode (length q.settled) source
  node = (let n = row.0 in let count = entries.settled_count in (n.0, omega (arith, n, count)))

  mark : (v : ℕ) → 1 ≤ v → ((v ≡ source) × Settled now v) ⊎ ((v ≢ source) × (in_table now.settled v ≡ in_table q.settled v))
  mark v h = read_node q.settled source v true false node h

  only : (v : ℕ) → IsNode (node_count s.net) v → Settled now v → v ≡ source
  only v n h =
      elim (mark v n.0) [
        | inl (e, is) ↦ e
        | inr (m, same) ↦ absurd (true≢false (sym h ∙ same ∙ unsettled v))
      ]

  here : Settled now source
  here =
      elim (mark source row.0.0) [
        | inl (e, is) ↦ is
        | inr (m, same) ↦ absurd (m refl)
      ]

  dist_here : dist_at now source ≡ pos 0
  dist_here = elim (read_node q.dist source source (pos 0) (pos 0) (let n = row.0 in let nd = entries.dist_count in (n.0, omega (arith, n, nd))) row.0.0)
      [ inl x ↦ x.1 | inr x ↦ absurd (x.0 refl) ]

  no_best : (t : Target) → now.best ≡ Some t → ⊥
  no_best t e = cc

  begun_order : IsOrder s now source (source ∷ [])
  begun_order =
      record {
        rest = [];
        first = refl;
        once = λ i j d l m. absurd (omega (arith, l, m));
        nodes = λ k d l. one_node k d l;
        listed = λ v n h. (zero, omega arith, sym (only v n h));
        members = λ v (k, l, e). at_zero v k l e;
        tally = (let one = counted_new q.settled source node (unsettled source) in let none = none_counted q.settled unsettled in omega (arith, one, none));
        reachable = λ v n h set closed has. subst (λ u. set u ≡ true) (sym (only v n h)) has;
        rows = λ v r h. inl (only v r.0 h);
        pairs = λ k p h. absurd (free (k, p, only (row_of s k) (row_is s k ok p.arc).0 h));
        predecessors = λ v column h. absurd (row_column s source v row column (sym (only v column.0 h)));
      }
    where
      one_node : (k d : ℕ) → k < length (source ∷ []) → IsNode (node_count s.net) (get_or (source ∷ []) k d)
      one_node zero d l = row.0
      one_node (suc k) d l = absurd (omega (arith, l))

      at_zero : (v k : ℕ) → k < length (source ∷ []) → get_or (source ∷ []) k v ≡ v → Settled now v
      at_zero v zero l e = subst (λ u. Settled now u) e here
      at_zero v (suc k) l e = absurd (omega (arith, l))

  pub begun_ok : (y : List ℤ) → q.queue ≡ [] → IsReady s y now source (source ∷ []) source
  begun_ok y empty =
      record {
        search = λ list lists. record {
          entries = record {
            dist_count = length-set q.dist (source - 1) (pos 0) ∙ entries.dist_count;
            settled_count = length-set q.settled (source - 1) true ∙ entries.settled_count;
            predecessor_count = entries.predecessor_count;
          };
          is_row = row;
          not_matched = free;
          source_settled = here;
          pairs = λ k p h. absurd (free (k, p, only (row_of s k) (row_is s k ok p.arc).0 h));
          partners = λ k p h. absurd (row_column s source (column_of s k) row (column_is s k ok p.arc)
              (sym (only (column_of s k) (column_is s k ok p.arc).0 h)));
          settled_columns = λ v column h. absurd (row_column s source v row column (sym (only v column.0 h)));
          waiting = λ o w. absurd (none_waits o w);
          level = λ u o n h w. absurd (none_waits o w);
          best = λ t e. absurd (no_best t e);
          offers = λ k arc h. inr (lists k arc (only (row_of s k) (row_is s k ok arc).0 h));
          near = λ v n h.
              let at = ap (dist_at now) (only v n h) in
              let zero = dist_here in
              let price = ap (at_node y) (only v n h) in
              (omega (arith, ints, at, zero, price), omega (arith, ints, at, zero, price));
        };
        order_ok = begun_order;
        last = λ u n h. (let same = ap (dist_at now) (only u n h) in omega (arith, ints, same));
        is_row = row;
        settled = here;
      }
    where
      none_waits : (o : Offer) → Waits q o → ⊥
      none_waits o w = let (i, h, e) = subst (λ (l : List Offer). Contains l o) empty w in omega (arith, h)

-- ---- a search that is over

-- without a target: no surplus can leave what is settled
pub over_stuck : (s : Pseudoflow) (y : List ℤ) (q : Search) (source : ℕ) → IsPartialMatching s → IsSearch s y q source [] → IsOver q
    → q.best ≡ None → IsStuck s (in_table q.settled)
over_stuck s y q source ok search over none =
    search_stuck s y q source ok search none (λ o h. subst (λ b. IsBestUpTo b o.dist) none (over o h))
