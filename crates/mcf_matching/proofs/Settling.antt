-- The column of an offer is settled, with the row that it is matched with.
use Rattle.std.proofs.Common.{◌≡◌, ◌≢◌, ℕ, ◌+◌, ◌-◌, ◌*◌, ◌≤◌, Bool, true, false, List, [], ◌∷◌, set, length, Some, ℤ, pos, ◌+ℤ◌, ◌-ℤ◌, ◌≤ℤ◌, refl, sym, ◌∙◌, ap, subst, arith, ◌⊎◌, inl}
use Rattle.std.proofs.Common.{inr, length-set}
use Rattle.std.specs.List.{Contains}
use Rattle.std.proofs.lemmas.Int.{ints}
use Rattle.mcf_flows.specs.Blocking.{in_table}
use Rattle.mcf_flows.specs.Network.{IsArcNumber, IsNode, at_node, node_count}
use Rattle.mcf_flows.specs.WellFormed.{IsUpTo}
use Rattle.mcf_network.specs.declared.rid.Rid.{Rid}
use Rattle.mcf_network.specs.NodeSets.{member_count, with_node}
use Rattle.mcf_network.specs.States.{Pseudoflow}
use Rattle.mcf_network.proofs.Lists.{Contains-cons}
use Rattle.mcf_network.proofs.Marks.{counted_new, marked_only, read_node}
use Rattle.mcf_offers.specs.Offers.{Offer}
use Rattle.mcf_network.specs.Nets.{greatest_cost}
use Rattle.mcf_matching.specs.Private.Labels.{Target}
use Rattle.mcf_matching.specs.Matchings.{AreMatchingPrices, IsColumn, IsMatchedColumn, IsPair, IsPartialMatching, IsRow, column_of, reduced, row_of}
use Rattle.mcf_matching.specs.Private.Searches.{HasEntries, HasForward, IsBestUpTo, IsDue, IsLast, IsPredecessor, IsNear, IsOffered, IsSearch, Search, Settled, Waits, dist_at}
use Rattle.mcf_matching.specs.Private.Searches.{forward, predecessor_at, offer, offer_of, paired, reach_of}
use Rattle.std.proofs.Math.Nat.{mul-add}
use Rattle.mcf_matching.proofs.Near.{cost_near, offer_near}
use Rattle.mcf_matching.proofs.PairLaws.{column_is, row_column, row_is}

pub not_true : (b : Bool) → (b ≡ true → ⊥) → b ≡ false
not_true true n = absurd (n refl)
not_true false n = refl

pub none_contained : (r : Rid) → Contains [] r → ⊥
none_contained r (i, h, e) = omega arith

-- the column of an offer and the row with which it is matched, both settled at its distance and by
-- its arc
pub record IsSettling (s : Pseudoflow) (old new : Search) (o : Offer) (r : ℕ) : Type 0 where
  pub settled : (v : ℕ) → IsNode (node_count s.net) v → Settled new v → Settled old v ⊎ ((v ≡ o.column) ⊎ (v ≡ r))
  pub kept : (v : ℕ) → IsNode (node_count s.net) v → Settled old v → Settled new v
  pub column : Settled new o.column
  pub row : Settled new r
  pub at_column : dist_at new o.column ≡ o.dist
  pub at_row : dist_at new r ≡ o.dist
  pub dist : (v : ℕ) → IsNode (node_count s.net) v → v ≢ o.column → v ≢ r → dist_at new v ≡ dist_at old v
  pub predecessor : predecessor_at new o.column ≡ o.arc
  pub predecessors : (v : ℕ) → IsNode (node_count s.net) v → v ≢ o.column → predecessor_at new v ≡ predecessor_at old v
  pub queue : new.queue ≡ old.queue
  pub best : new.best ≡ old.best
  pub dist_count : length new.dist ≡ length old.dist
  pub settled_count : length new.settled ≡ length old.settled
  pub predecessor_count : length new.predecessors ≡ length old.predecessors

pub paired_is : (s : Pseudoflow) (q : Search) (o : Offer) (r : ℕ) → HasEntries (node_count s.net) q → IsNode (node_count s.net) o.column
    → IsNode (node_count s.net) r → o.column ≢ r → IsSettling s q (paired q o r) o r
paired_is s q o r entries nc nr apart =
    let c = o.column in
    let nd = entries.dist_count in
    let ns = entries.settled_count in
    let nl = entries.predecessor_count in
    let dc : IsNode (length q.dist) c = (nc.0, omega (arith, nc, nd)) in
    let dr : IsNode (length (set q.dist (c - 1) o.dist)) r = (nr.0, omega (arith, nr, nd, length-set q.dist (c - 1) o.dist)) in
    let lc : IsNode (length q.predecessors) c = (nc.0, omega (arith, nc, nl)) in
    let sc : IsNode (length q.settled) c = (nc.0, omega (arith, nc, ns)) in
    let sr : IsNode (length (set q.settled (c - 1) true)) r = (nr.0, omega (arith, nr, ns, length-set q.settled (c - 1) true)) in
    let mark : (v : ℕ) → 1 ≤ v → ((v ≡ r) × Settled (paired q o r) v) ⊎
    ((v ≢ r) × (in_table (paired q o r).settled v ≡ in_table (set q.settled (c - 1) true) v)) = λ (v : ℕ) (h : 1 ≤ v). read_node
    (set q.settled (c - 1) true) r v true false sr h in
    let inner : (v : ℕ) → 1 ≤ v → ((v ≡ c) × (in_table (set q.settled (c - 1) true) v ≡ true)) ⊎
    ((v ≢ c) × (in_table (set q.settled (c - 1) true) v ≡ in_table q.settled v)) = λ (v : ℕ) (h : 1 ≤ v). read_node q.settled c v true false sc h in
    record {
      settled = λ v n h. elim (mark v n.0) [
        | inl (e, is) ↦ inr (inr e)
        | inr (m, same) ↦ elim (inner v n.0) [
          | inl (e, is) ↦ inr (inl e)
          | inr (m', same') ↦ inl (sym (same ∙ same') ∙ h)
        ]
      ];
      kept = λ v n h. elim (mark v n.0) [
        | inl (e, is) ↦ is
        | inr (m, same) ↦ elim (inner v n.0) [
          | inl (e, is) ↦ same ∙ is
          | inr (m', same') ↦ same ∙ same' ∙ h
        ]
      ];
      column = elim (mark c nc.0) [
        | inl (e, is) ↦ is
        | inr (m, same) ↦ elim (inner c nc.0) [
          | inl (e, is) ↦ same ∙ is
          | inr (m', same') ↦ absurd (m' refl)
        ]
      ];
      row = elim (mark r nr.0) [
        | inl (e, is) ↦ is
        | inr (m, same) ↦ absurd (m refl)
      ];
      at_column = elim (read_node (set q.dist (c - 1) o.dist) r c o.dist (pos 0) dr nc.0) [
        | inl x ↦ x.1
        | inr x ↦ x.1 ∙ elim (read_node q.dist c c o.dist (pos 0) dc nc.0) [ inl z ↦ z.1 | inr z ↦ absurd (z.0 refl) ]
      ];
      at_row = elim (read_node (set q.dist (c - 1) o.dist) r r o.dist (pos 0) dr nr.0) [ inl x ↦ x.1 | inr x ↦ absurd (x.0 refl) ];
      dist = λ v n mc mr. elim (read_node (set q.dist (c - 1) o.dist) r v o.dist (pos 0) dr n.0) [
        | inl x ↦ absurd (mr x.0)
        | inr x ↦ x.1 ∙ elim (read_node q.dist c v o.dist (pos 0) dc n.0) [ inl z ↦ absurd (mc z.0) | inr z ↦ z.1 ]
      ];
      predecessor = elim (read_node q.predecessors c c o.arc 0 lc nc.0) [ inl x ↦ x.1 | inr x ↦ absurd (x.0 refl) ];
      predecessors = λ v n m. elim (read_node q.predecessors c v o.arc 0 lc n.0) [ inl x ↦ absurd (m x.0) | inr x ↦ x.1 ];
      queue = refl;
      best = refl;
      dist_count = length-set (set q.dist (c - 1) o.dist) (r - 1) o.dist ∙ length-set q.dist (c - 1) o.dist;
      settled_count = length-set (set q.settled (c - 1) true) (r - 1) true ∙ length-set q.settled (c - 1) true;
      predecessor_count = length-set q.predecessors (c - 1) o.arc;
    }

-- a pair that is settled counts two more
pub two_more : (s : Pseudoflow) (y : List ℤ) (q : Search) (source : ℕ) (o : Offer) (r k0 : ℕ) (rest : List Rid) → IsPartialMatching s
    → length q.settled ≡ node_count s.net → IsSearch s y q source rest → IsPair s k0 → column_of s k0 ≡ o.column → row_of s k0 ≡ r
    → ¬ Settled q o.column → member_count (paired q o r).settled ≡ member_count q.settled + 2
two_more s y q source o r k0 rest ok count search pair at_column at_row c_new =
    let c = o.column in
    let c_is : IsColumn s c = subst (λ v. IsColumn s v) at_column (column_is s k0 ok pair.arc) in
    let r_is : IsRow s r = subst (λ v. IsRow s v) at_row (row_is s k0 ok pair.arc) in
    let r_new : ¬ Settled q r = λ (h : Settled q r). c_new
    (subst (λ v. Settled q v) at_column (search.pairs k0 pair (subst (λ v. Settled q v) (sym at_row) h)).0) in
    let nc : IsNode (length q.settled) c = (let n = c_is.0 in (n.0, omega (arith, n, count))) in
    let nr : IsNode (length q.settled) r = (let n = r_is.0 in (n.0, omega (arith, n, count))) in
    let nr' : IsNode (length (with_node q.settled c)) r = (nr.0, omega (arith, nr, length-set q.settled (c - 1) true)) in
    let r_still : in_table (with_node q.settled c) r ≡ true → ⊥ = λ (h : in_table (with_node q.settled c) r ≡ true). elim (marked_only q.settled c r nc nr h) [
      | inl e ↦ row_column s r c r_is c_is e
      | inr was ↦ r_new was
    ] in
    let one = counted_new q.settled c nc (not_true (in_table q.settled c) c_new) in
    let two = counted_new (with_node q.settled c) r nr' (not_true (in_table (with_node q.settled c) r) r_still) in
    omega (arith, one, two)

-- a pair settled: its row is as far from its column as the cost of their arc
pub near_settled : (s : Pseudoflow) (y : List ℤ) (q new : Search) (source b : ℕ) (o : Offer) (r k0 : ℕ) → IsPartialMatching s → AreMatchingPrices s y
    → IsNear s y q source b → IsSettling s q new o r → IsPair s k0 → column_of s k0 ≡ o.column → row_of s k0 ≡ r → IsDue s y q o
    → ((v : ℕ) → IsNode (node_count s.net) v → Settled q v → v ≢ r) → IsNear s y new source (b + greatest_cost s.net.arcs + greatest_cost s.net.arcs)
near_settled s y q new source b o r k0 ok shown near step pair at_column at_row due fresh v n h =
    let l = due.predecessor in
    let gives = l.gives in
    let to = ap (at_node y) l.to in
    let first = offer_near s y q source b o.arc ok near l.arc l.from in
    let here : IsUpTo (b + greatest_cost s.net.arcs) (o.dist +ℤ at_node y source -ℤ at_node y o.column) =
    (omega (arith, ints, first, gives, to), omega (arith, ints, first, gives, to)) in
    let tight = shown.tight k0 pair in
    let pc = ap (at_node y) at_column in
    let pr = ap (at_node y) at_row in
    let cost = cost_near s.net k0 pair.arc in
    let at = step.at_row in
    let row : IsUpTo (b + greatest_cost s.net.arcs + greatest_cost s.net.arcs) (dist_at new r +ℤ at_node y source -ℤ at_node y r) =
    (omega (arith, ints, here, tight, pc, pr, cost, at), omega (arith, ints, here, tight, pc, pr, cost, at)) in
    elim (step.settled v n h) [
      | inl was ↦ (
          let same = step.dist v n (λ e. due.fresh (subst (λ u. Settled q u) e was)) (fresh v n was) in
          let before = near v n was in
          (omega (arith, ints, same, before), omega (arith, ints, same, before)))
      | inr (inl e) ↦ (
          let same = step.at_column in
          let d = ap (dist_at new) e in
          let p = ap (at_node y) e in
          (omega (arith, ints, here, same, d, p), omega (arith, ints, here, same, d, p)))
      | inr (inr e) ↦ subst (λ x. IsUpTo (b + greatest_cost s.net.arcs + greatest_cost s.net.arcs) (dist_at new x +ℤ at_node y source -ℤ at_node y x)) (sym e) row
    ]

module _ (s : Pseudoflow) (y : List ℤ) (old new : Search) (source : ℕ) (o : Offer) (r k0 : ℕ) (ok : IsPartialMatching s)
    (search : IsSearch s y old source (forward o.arc ∷ [])) (step : IsSettling s old new o r) (pair : IsPair s k0)
    (at_column : column_of s k0 ≡ o.column) (at_row : row_of s k0 ≡ r) (due : IsDue s y old o) where
  c_is : IsColumn s o.column
  c_is = subst (λ v. IsColumn s v) at_column (column_is s k0 ok pair.arc)

  r_is : IsRow s r
  r_is = subst (λ v. IsRow s v) at_row (row_is s k0 ok pair.arc)

  r_fresh : ¬ Settled old r
  r_fresh h =
      due.fresh (subst (λ v. Settled old v) at_column (search.pairs k0 pair (subst (λ v. Settled old v) (sym at_row) h)).0)

  -- the distance of a node that was settled is as it was
  same : (v : ℕ) → IsNode (node_count s.net) v → Settled old v → dist_at new v ≡ dist_at old v
  same v n h =
      step.dist v n (λ e. due.fresh (subst (λ x. Settled old x) e h)) (λ e. r_fresh (subst (λ x. Settled old x) e h))

  predecessor_kept : (k v : ℕ) (x : ℤ) → IsPredecessor s y old k v x → IsPredecessor s y new k v x
  predecessor_kept k v x h =
      let row = row_is s k ok h.arc in
      record {
        arc = h.arc;
        idle = h.idle;
        from = step.kept (row_of s k) row.0 h.from;
        to = h.to;
        gives = h.gives ∙ ap (λ d. d +ℤ reduced s y k) (sym (same (row_of s k) row.0 h.from));
      }

  pairs_now : (k : ℕ) → IsPair s k → Settled new (row_of s k) → Settled new (column_of s k) × (dist_at new (row_of s k) ≡ dist_at new (column_of s k))
  pairs_now k p h =
      let row = row_is s k ok p.arc in
      let column = column_is s k ok p.arc in
      elim (step.settled (row_of s k) row.0 h) [
        | inl was ↦ (
            let both = search.pairs k p was in
            (step.kept (column_of s k) column.0 both.0, same (row_of s k) row.0 was ∙ both.1 ∙ sym (same (column_of s k) column.0 both.0)))
        | inr (inl e) ↦ absurd (row_column s (row_of s k) o.column row c_is e)
        | inr (inr e) ↦ (
            let is : k ≡ k0 = ok.once_in_row k k0 p pair (e ∙ sym at_row) in
            let to : column_of s k ≡ o.column = ap (column_of s) is ∙ at_column in
            (subst (λ v. Settled new v) (sym to) step.column, ap (dist_at new) e ∙ step.at_row ∙ sym step.at_column ∙ ap (dist_at new) (sym to)))
      ]

  partners_now : (k : ℕ) → IsPair s k → Settled new (column_of s k) → Settled new (row_of s k)
  partners_now k p h =
      let row = row_is s k ok p.arc in
      let column = column_is s k ok p.arc in
      elim (step.settled (column_of s k) column.0 h) [
        | inl was ↦ step.kept (row_of s k) row.0 (search.partners k p was)
        | inr (inl e) ↦ (
            let is : k ≡ k0 = ok.once_in_column k k0 p pair (e ∙ sym at_column) in
            subst (λ v. Settled new v) (sym (ap (row_of s) is ∙ at_row)) step.row)
        | inr (inr e) ↦ absurd (row_column s r (column_of s k) r_is column (sym e))
      ]

  settled_now : (v : ℕ) → IsColumn s v → Settled new v → IsMatchedColumn s v × IsPredecessor s y new (predecessor_at new v) v (dist_at new v)
  settled_now v h now =
      elim (step.settled v h.0 now) [
        | inl was ↦ (
            let before = search.settled_columns v h was in
            let other = step.predecessors v h.0 (λ e. due.fresh (subst (λ x. Settled old x) e was)) in (
              before.0,
              subst (λ k. IsPredecessor s y new k v (dist_at new v)) (sym other)
                  (subst (λ x. IsPredecessor s y new (predecessor_at old v) v x) (sym (same v h.0 was)) (predecessor_kept (predecessor_at old v) v (dist_at old v) before.1)),
            ))
        | inr (inl e) ↦ subst (λ u. IsMatchedColumn s u × IsPredecessor s y new (predecessor_at new u) u (dist_at new u)) (sym e) (
          due.matched,
          subst (λ k. IsPredecessor s y new k o.column (dist_at new o.column)) (sym step.predecessor)
              (subst (λ x. IsPredecessor s y new o.arc o.column x) (sym step.at_column) (predecessor_kept o.arc o.column o.dist due.predecessor)),
        )
        | inr (inr e) ↦ absurd (row_column s r v r_is h (sym e))
      ]

  -- no settled node is farther than the offer
  far_now : (u : ℕ) → IsNode (node_count s.net) u → Settled new u → dist_at new u ≤ℤ o.dist
  far_now u n h =
      elim (step.settled u n h) [
        | inl was ↦ (let d = same u n was in let far = due.farthest u n was in omega (arith, ints, d, far))
        | inr (inl e) ↦ (let here = ap (dist_at new) e in let at = step.at_column in omega (arith, ints, here, at))
        | inr (inr e) ↦ (let here = ap (dist_at new) e in let at = step.at_row in omega (arith, ints, here, at))
      ]

  was_waiting : (p : Offer) → Waits new p → Waits old p
  was_waiting p w = subst (λ (l : List Offer). Contains l p) step.queue w

  best_now : (t : Target) → new.best ≡ Some t → IsPredecessor s y new t.arc (column_of s t.arc) t.dist × (¬ IsMatchedColumn s (column_of s t.arc)) × ((u : ℕ)
      → IsNode (node_count s.net) u → Settled new u → dist_at new u ≤ℤ t.dist)
  best_now t e =
      let was = search.best t (sym step.best ∙ e) in
      let near = due.before_best t (sym step.best ∙ e) in
      (predecessor_kept t.arc (column_of s t.arc) t.dist was.0, was.1, λ u n h. let far = far_now u n h in omega (arith, ints, near, far))

  -- the arc of the offer can't improve a distance
  here_now : IsOffered s y new o.arc
  here_now =
      let l = due.predecessor in
      let row = row_is s o.arc ok l.arc in
      let d = same (row_of s o.arc) row.0 l.from in
      let gives = l.gives in
      inl (subst (λ v. Settled new v × (dist_at new v ≤ℤ offer s y new o.arc)) (sym l.to)
      (step.column, let at = step.at_column in omega (arith, ints, d, gives, at)))

  offers_now : (list : List Rid) → HasForward s.net r list → (k : ℕ) → IsArcNumber s.net k → Settled new (row_of s k)
      → IsOffered s y new k ⊎ Contains list (forward k)
  offers_now list lists k arc h =
      let row = row_is s k ok arc in
      let column = column_is s k ok arc in
      elim (step.settled (row_of s k) row.0 h) [
        | inl was ↦ (
            let d = same (row_of s k) row.0 was in
            let gives : offer s y old k ≡ offer s y new k = ap (λ x. x +ℤ reduced s y k) (sym d) in
            elim (search.offers k arc was) [
              | inr has ↦ elim (Contains-cons (forward o.arc) [] (forward k) has) [
                | inl e ↦ inl (subst (λ j. IsOffered s y new j) (ap (λ (x : Rid). x.arc) e) here_now)
                | inr none ↦ absurd (none_contained (forward k) none)
              ]
              | inl (inl (settled, less)) ↦ inl (inl (
                step.kept (column_of s k) column.0 settled,
                let dc = same (column_of s k) column.0 settled in
                    omega (arith, ints, d, dc, less),
              ))
              | inl (inr (inl waits)) ↦ inl (inr (inl (subst (λ (l : List Offer). Contains l (offer_of s y new k)) (sym step.queue)
                  (subst (λ x. Waits old (record { dist = x; column = column_of s k; arc = k })) gives waits))))
              | inl (inr (inr best)) ↦ inl (inr (inr (subst (λ b. IsBestUpTo b (offer s y new k)) (sym step.best)
                  (subst (λ x. IsBestUpTo old.best x) gives best))))
            ])
        | inr (inl e) ↦ absurd (row_column s (row_of s k) o.column row c_is e)
        | inr (inr e) ↦ inr (lists k arc e)
      ]

  pub settled_ok : IsNear s y new source (reach_of s.net new) → (list : List Rid) → HasForward s.net r list → IsSearch s y new source list
  settled_ok near list lists =
      record {
        entries = record { dist_count = step.dist_count ∙ search.entries.dist_count; settled_count = step.settled_count ∙ search.entries.settled_count; predecessor_count = step.predecessor_count ∙ search.entries.predecessor_count };
        is_row = search.is_row;
        not_matched = search.not_matched;
        source_settled = step.kept source search.is_row.0 search.source_settled;
        pairs = pairs_now;
        partners = partners_now;
        settled_columns = settled_now;
        waiting = λ p w. (let b = search.waiting p (was_waiting p w) in (b.0, predecessor_kept p.arc p.column p.dist b.1));
        level = λ u p n h w.
            let far = far_now u n h in
            let near = due.nearest p (was_waiting p w) in
            omega (arith, ints, far, near);
        best = best_now;
        offers = offers_now list lists;
        near = near;
      }

  pub near_now : AreMatchingPrices s y → member_count new.settled ≡ member_count old.settled + 2 → IsNear s y new source (reach_of s.net new)
  near_now shown more v n h =
      let b = reach_of s.net old in
      let near = near_settled s y old new source b o r k0 ok shown search.near step pair at_column at_row due
      (λ u m w e. r_fresh (subst (λ x. Settled old x) e w)) v n h in
      let grown = ap (λ k. 2 * greatest_cost s.net.arcs * k) more ∙ mul-add (2 * greatest_cost s.net.arcs) (member_count old.settled) 2 in
      (omega (arith, ints, near, grown), omega (arith, ints, near, grown))

  pub settled_last : IsLast s new r
  settled_last u n h = let far = far_now u n h in let at = step.at_row in omega (arith, ints, far, at)
