-- The list of the settled nodes as a search begins, and with one pair more.
use Rattle.std.proofs.Common.{◌≡◌, ◌≢◌, ℕ, ◌+◌, ◌<◌, ◌≤◌, zero, suc, cond, true, false, List, [], ◌∷◌, ◌++◌, length, get_or, set, ℤ, pos, refl}
use Rattle.std.proofs.Common.{sym, ◌∙◌, Some, ap, subst, arith, ◌⊎◌, inl, inr}
use Rattle.std.specs.List.{AllPairs, Contains}
use Rattle.std.proofs.lemmas.Bool.{cases_eq, eq-eqb, ne_eqb}
use Rattle.std.proofs.lemmas.Int.{ints}
use Rattle.std.proofs.lemmas.List.{length_push}
use Rattle.std.proofs.lemmas.List.Elements.{All-contains, Contains-append_left, Contains-get_or, Contains-push, Contains-push_cases}
use Rattle.std.proofs.lemmas.List.Quantifiers.{all_pairs_push}
use Rattle.mcf_flows.specs.Network.{IsArcNumber, IsNode, node_count}
use Rattle.mcf_network.specs.NodeSets.{member_count}
use Rattle.mcf_network.specs.States.{Pseudoflow, amount_at}
use Rattle.mcf_network.specs.Walks.{HasRoom}
use Rattle.mcf_network.proofs.Marks.{count_small}
use Rattle.mcf_network.proofs.StateLaws.{rid}
use Rattle.mcf_matching.specs.Extending.{IsReachable}
use Rattle.mcf_matching.specs.Private.Forests.{IsOrder, place}
use Rattle.mcf_matching.specs.Matchings.{AreMatchingPrices, IsColumn, IsPair, IsPartialMatching, IsRow, column_of, row_of}
use Rattle.mcf_offers.specs.Offers.{Offer}
use Rattle.mcf_matching.specs.declared.search.Tables.{Tables}
use Rattle.mcf_matching.specs.Private.Keeping.{IsReady}
use Rattle.mcf_matching.specs.Private.Rooms.{KeepsSettled, out_count}
use Rattle.mcf_matching.specs.Private.Searches.{IsDue, IsNearest, IsSearch, Search, Settled, forward, predecessor_at, paired, search_of}
use Rattle.mcf_matching.proofs.Rooms.{out_more, out_push}
use Rattle.mcf_matching.proofs.Settling.{IsSettling, paired_is, near_now, settled_last, settled_ok, two_more}
use Rattle.mcf_matching.proofs.PairLaws.{column_is, pairing_at, row_column, row_is}

-- ---- places

place_here : (x : ℕ) (xs : List ℕ) (v : ℕ) → x ≡ v → place (x ∷ xs) v ≡ 0
place_here x xs v e = ap (λ b. cond b 0 (place xs v + 1)) (eq-eqb x v e)

place_later : (x : ℕ) (xs : List ℕ) (v : ℕ) → x ≢ v → place (x ∷ xs) v ≡ place xs v + 1
place_later x xs v n = ap (λ b. cond b 0 (place xs v + 1)) (ne_eqb x v n)

-- a place before the end stays as it is
place_left : (xs ys : List ℕ) (v : ℕ) → place xs v < length xs → place (xs ++ ys) v ≡ place xs v
place_left [] ys v l = absurd (omega (arith, l))
place_left (x ∷ xs) ys v l =
    elim (cases_eq x v) [
      | inl e ↦ place_here x (xs ++ ys) v e ∙ sym (place_here x xs v e)
      | inr n ↦ place_later x (xs ++ ys) v n ∙ ap (λ k. k + 1) (place_left xs ys v (let same = place_later x xs v n in omega (arith, l, same))) ∙ sym
          (place_later x xs v n)
    ]

place_at : (xs : List ℕ) (v i : ℕ) → i < length xs → get_or xs i v ≡ v → place xs v < length xs
place_at [] v i l e = absurd (omega (arith, l))
place_at (x ∷ xs) v zero l e = let here = place_here x xs v e in omega (arith, here)
place_at (x ∷ xs) v (suc i) l e =
    elim (cases_eq x v) [
      | inl same ↦ (let here = place_here x xs v same in omega (arith, here))
      | inr n ↦ (let later = place_later x xs v n in let inside = place_at xs v i (omega (arith, l)) e in omega (arith, later, inside))
    ]

-- the place of a node that stands in the list
pub place_in : (xs : List ℕ) (v : ℕ) → Contains xs v → place xs v < length xs
place_in xs v (i, l, e) = place_at xs v i l e

pub place_kept : (xs ys : List ℕ) (v : ℕ) → Contains xs v → place (xs ++ ys) v ≡ place xs v
place_kept xs ys v has = place_left xs ys v (place_in xs v has)

-- a node that is new stands at the end
pub place_new : (xs : List ℕ) (v : ℕ) → ¬ Contains xs v → place (xs ++ v ∷ []) v ≡ length xs
place_new [] v n = place_here v [] v refl
place_new (x ∷ xs) v n =
    let later = place_later x (xs ++ v ∷ []) v (λ e. n (zero, omega arith, e)) in
    let rest = place_new xs v (λ (k, l, e). n (suc k, omega (arith, l), e)) in
    omega (arith, later, rest)

-- ---- reachability

pub forth_room : (s : Pseudoflow) (k : ℕ) → IsPartialMatching s → IsArcNumber s.net k → amount_at s k ≡ pos 0 → HasRoom s (rid k false)
forth_room s k ok arc none =
    let cap = (pairing_at s k ok arc).cap_is in
    record { arc = arc; room = omega (arith, ints, none, cap) }

back_room : (s : Pseudoflow) (k : ℕ) → IsPair s k → HasRoom s (rid k true)
back_room s k pair = (let one = pair.one in record { arc = pair.arc; room = omega (arith, ints, one) })

-- ---- the same list, while other offers wait

pub order_kept : (s : Pseudoflow) {W : Type 0} (p t : Tables W) (source n : ℕ) → KeepsSettled n p t → IsOrder s (search_of p) source p.order.items
    → IsOrder s (search_of t) source t.order.items
order_kept s p t source n kept was =
    subst (λ (x : Search). IsOrder s x source t.order.items) (sym kept.labels)
    (subst (λ l. IsOrder s (record (search_of p) { queue = t.offers.items; best = t.best }) source l) (ap (λ l. l.items) (sym kept.order)) (record {
      rest = was.rest;
      first = was.first;
      once = was.once;
      nodes = was.nodes;
      listed = was.listed;
      members = was.members;
      tally = was.tally;
      reachable = was.reachable;
      rows = was.rows;
      pairs = was.pairs;
      predecessors = was.predecessors;
    }))

-- ---- one pair more

module _ (s : Pseudoflow) (y : List ℤ) (q q' : Search) (source : ℕ) (o : Offer) (r k0 : ℕ) (order : List ℕ) (ok : IsPartialMatching s)
    (search : IsSearch s y q source (forward o.arc ∷ [])) (was : IsOrder s q source order) (step : IsSettling s q q' o r) (pair : IsPair s k0)
    (at_column : column_of s k0 ≡ o.column) (at_row : row_of s k0 ≡ r) (due : IsDue s y q o)
    (more : member_count q'.settled ≡ member_count q.settled + 2) where
  abbrev c : ℕ
  c = o.column

  abbrev longer : List ℕ
  longer = (order ++ c ∷ []) ++ r ∷ []

  c_is : IsColumn s c
  c_is = subst (λ v. IsColumn s v) at_column (column_is s k0 ok pair.arc)

  r_is : IsRow s r
  r_is = subst (λ v. IsRow s v) at_row (row_is s k0 ok pair.arc)

  c_new : ¬ Settled q c
  c_new = due.fresh

  r_new : ¬ Settled q r
  r_new h =
      c_new (subst (λ v. Settled q v) at_column (search.pairs k0 pair (subst (λ v. Settled q v) (sym at_row) h)).0)

  has_was : (v : ℕ) → Contains order v → Contains longer v
  has_was v h =
      Contains-append_left (order ++ c ∷ []) (r ∷ []) v (Contains-append_left order (c ∷ []) v h)

  has_c : Contains longer c
  has_c = Contains-append_left (order ++ c ∷ []) (r ∷ []) c (Contains-push order c)

  has_r : Contains longer r
  has_r = Contains-push (order ++ c ∷ []) r

  place_was : (v : ℕ) → Contains order v → place longer v ≡ place order v
  place_was v h =
      place_kept (order ++ c ∷ []) (r ∷ []) v (Contains-append_left order (c ∷ []) v h) ∙ place_kept order (c ∷ []) v h

  place_c : place longer c ≡ length order
  place_c =
      place_kept (order ++ c ∷ []) (r ∷ []) c (Contains-push order c) ∙ place_new order c (λ h. c_new (was.members c h))

  r_not_before : ¬ Contains (order ++ c ∷ []) r
  r_not_before h =
      elim (Contains-push_cases order c r h) [
        | inl before ↦ r_new (was.members r before)
        | inr e ↦ row_column s r c r_is c_is (sym e)
      ]

  place_r : place longer r ≡ length order + 1
  place_r = place_new (order ++ c ∷ []) r r_not_before ∙ length_push order c

  reach_c : IsReachable s source c
  reach_c set closed has =
      let l = due.predecessor in
      let row = row_is s o.arc ok l.arc in
      let from = was.reachable (row_of s o.arc) row.0 l.from set closed has in
      subst (λ v. set v ≡ true) l.to (closed (rid o.arc false) (forth_room s o.arc ok l.arc l.idle) from)

  reach_r : IsReachable s source r
  reach_r set closed has =
      subst (λ v. set v ≡ true) at_row (closed (rid k0 true) (back_room s k0 pair) (subst (λ v. set v ≡ true) (sym at_column) (reach_c set closed has)))

  once_now : AllPairs (λ u v. u ≢ v) longer
  once_now =
      all_pairs_push (λ u v. u ≢ v) (order ++ c ∷ []) r
      (all_pairs_push (λ u v. u ≢ v) order c was.once (λ k d l e. c_new (was.members c (subst (λ v. Contains order v) e (Contains-get_or order k d l)))))
      (λ k d l e. r_not_before (subst (λ v. Contains (order ++ c ∷ []) v) e (Contains-get_or (order ++ c ∷ []) k d l)))

  member_now : (v : ℕ) → Contains longer v → (Contains order v ⊎ (v ≡ c)) ⊎ (v ≡ r)
  member_now v h =
      elim (Contains-push_cases (order ++ c ∷ []) r v h) [
        | inl before ↦ elim (Contains-push_cases order c v before) [
          | inl old ↦ inl (inl old)
          | inr e ↦ inl (inr (sym e))
        ]
        | inr e ↦ inr (sym e)
      ]

  node_now : (v : ℕ) → Contains longer v → IsNode (node_count s.net) v
  node_now v h =
      elim (member_now v h) [
        | inl (inl old) ↦ All-contains (IsNode (node_count s.net)) order v was.nodes old
        | inl (inr e) ↦ subst (λ u. IsNode (node_count s.net) u) (sym e) c_is.0
        | inr e ↦ subst (λ u. IsNode (node_count s.net) u) (sym e) r_is.0
      ]

  -- as many arcs more leave the nodes of the list as leave the row
  pub out_longer : out_count s.net order + out_count s.net (r ∷ []) ≤ out_count s.net longer
  out_longer =
      let first = out_more s.net order (c ∷ []) in
      let last = out_push s.net (order ++ c ∷ []) r r_not_before in
      omega (arith, first, last)

  pub ordered_more : IsOrder s q' source longer
  ordered_more =
      record {
        rest = (was.rest ++ c ∷ []) ++ r ∷ [];
        first = ap (λ o. (o ++ c ∷ []) ++ r ∷ []) was.first;
        once = once_now;
        nodes = λ k d l. node_now (get_or longer k d) (Contains-get_or longer k d l);
        listed = λ v n h. elim (step.settled v n h) [
          | inl before ↦ has_was v (was.listed v n before)
          | inr (inl e) ↦ subst (λ u. Contains longer u) (sym e) has_c
          | inr (inr e) ↦ subst (λ u. Contains longer u) (sym e) has_r
        ];
        members = λ v h. elim (member_now v h) [
          | inl (inl old) ↦ step.kept v (node_now v h) (was.members v old)
          | inl (inr e) ↦ subst (λ u. Settled q' u) (sym e) step.column
          | inr e ↦ subst (λ u. Settled q' u) (sym e) step.row
        ];
        tally = (let a = length_push (order ++ c ∷ []) r in let b = length_push order c in let t = was.tally in omega (arith, a, b, t, more));
        reachable = λ v n h. elim (step.settled v n h) [
          | inl before ↦ was.reachable v n before
          | inr (inl e) ↦ subst (λ u. IsReachable s source u) (sym e) reach_c
          | inr (inr e) ↦ subst (λ u. IsReachable s source u) (sym e) reach_r
        ];
        rows = λ v row h. elim (step.settled v row.0 h) [
          | inl before ↦ was.rows v row before
          | inr (inl e) ↦ absurd (row_column s v c row c_is e)
          | inr (inr e) ↦ inr (k0, pair, at_row ∙ sym e)
        ];
        pairs = pairs_now;
        predecessors = predecessors_now;
      }
    where
      pairs_now : (k : ℕ) → IsPair s k → Settled q' (row_of s k) → place longer (column_of s k) < place longer (row_of s k)
      pairs_now k p h =
          let row = row_is s k ok p.arc in
          let column = column_is s k ok p.arc in
          elim (step.settled (row_of s k) row.0 h) [
            | inl before ↦ (
                let less = was.pairs k p before in
                let a = place_was (row_of s k) (was.listed (row_of s k) row.0 before) in
                let b = place_was (column_of s k) (was.listed (column_of s k) column.0 (search.pairs k p before).0) in
                omega (arith, less, a, b))
            | inr (inl e) ↦ absurd (row_column s (row_of s k) c row c_is e)
            | inr (inr e) ↦ (
                let same : k ≡ k0 = ok.once_in_row k k0 p pair (e ∙ sym at_row) in
                let a = ap (place longer) e ∙ place_r in
                let b = ap (place longer) (ap (column_of s) same ∙ at_column) ∙ place_c in
                omega (arith, a, b))
          ]

      predecessors_now : (v : ℕ) → IsColumn s v → Settled q' v → place longer (row_of s (predecessor_at q' v)) < place longer v
      predecessors_now v column h =
          elim (step.settled v column.0 h) [
            | inl before ↦ (
                let other = step.predecessors v column.0 (λ e. c_new (subst (λ u. Settled q u) e before)) in
                let same = ap (λ k. place longer (row_of s k)) other in
                let l = (search.settled_columns v column before).1 in
                let row = row_is s (predecessor_at q v) ok l.arc in
                let a = place_was (row_of s (predecessor_at q v)) (was.listed (row_of s (predecessor_at q v)) row.0 l.from) in
                let b = place_was v (was.listed v column.0 before) in
                let less = was.predecessors v column before in
                omega (arith, a, b, less, same))
            | inr (inl e) ↦ (
                let l = due.predecessor in
                let row = row_is s o.arc ok l.arc in
                let has = was.listed (row_of s o.arc) row.0 l.from in
                let a = place_was (row_of s o.arc) has in
                let inside = place_in order (row_of s o.arc) has in
                let b = ap (place longer) e ∙ place_c in
                let at = ap (λ k. place longer (row_of s k)) (ap (predecessor_at q') e ∙ step.predecessor) in
                omega (arith, a, b, inside, at))
            | inr (inr e) ↦ absurd (row_column s r v r_is column (sym e))
          ]

-- a pair that was settled: the search goes on with its row, which is listed behind its column
pub record IsSettled (s : Pseudoflow) (y : List ℤ) (q : Search) (source : ℕ) (order : List ℕ) (o : Offer) (r : ℕ) : Type 0 where
  pub ready : IsReady s y (paired q o r) source ((order ++ o.column ∷ []) ++ r ∷ []) r
  pub few : length order + 2 ≤ node_count s.net
  pub arcs : out_count s.net order + out_count s.net (r ∷ []) ≤ out_count s.net ((order ++ o.column ∷ []) ++ r ∷ [])

pub pair_settled : {s : Pseudoflow} {y : List ℤ} {q : Search} {source : ℕ} {order : List ℕ} {o : Offer} {r : ℕ} → IsPartialMatching s
    → AreMatchingPrices s y → IsOrder s q source order → IsNearest s y source q (Some o)
    → (k : ℕ) × IsPair s k × (column_of s k ≡ o.column) × (row_of s k ≡ r) → IsSettled s y q source order o r
pair_settled {s} {y} {q} {source} {order} {o} {r} ok shown was (search, due) (k, pair, at_column, at_row) =
    record {
      ready = record {
        search = settled_ok s y q new source o r k ok search step pair at_column at_row due
            (near_now s y q new source o r k ok search step pair at_column at_row due shown more);
        order_ok = ordered_more s y q new source o r k order ok search was step pair at_column at_row due more;
        last = settled_last s y q new source o r k ok search step pair at_column at_row due;
        is_row = r_is;
        settled = step.row;
      };
      few = (
          let count = search.entries.settled_count in
          let tally = was.tally in
          let small = count_small new.settled in
          let same = step.settled_count in
          omega (arith, more, tally, small, same, count));
      arcs = out_longer s y q new source o r k order ok search was step pair at_column at_row due more;
    }
  where
    new : Search
    new = paired q o r

    c_is : IsColumn s o.column
    c_is = subst (λ v. IsColumn s v) at_column (column_is s k ok pair.arc)

    r_is : IsRow s r
    r_is = subst (λ v. IsRow s v) at_row (row_is s k ok pair.arc)

    step : IsSettling s q new o r
    step = paired_is s q o r search.entries c_is.0 r_is.0 (λ e. row_column s r o.column r_is c_is (sym e))

    more : member_count new.settled ≡ member_count q.settled + 2
    more = two_more s y q source o r k (forward o.arc ∷ []) ok search.entries.settled_count search pair at_column at_row due.fresh
