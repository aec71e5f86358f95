-- Arcs of a settled row than which no settled node is farther are relaxed.
use Rattle.std.proofs.Common.{◌≡◌, ℕ, ◌+◌, ◌-◌, ◌<◌, ◌≤◌, Bool, true, false, List, [], ◌∷◌, ◌++◌, length, map, get_or, Option, None, Some, ℤ, ◌+ℤ◌, ◌-ℤ◌, ◌≤ℤ◌}
use Rattle.std.proofs.Common.{refl, sym, ◌∙◌, ap, subst, arith, ◌⊎◌, inl, inr}
use Rattle.std.specs.List.{All, Contains}
use Rattle.std.specs.List.Sorted.{IsPermutation}
use Rattle.std.specs.Prelude.{IfSome}
use Rattle.std.proofs.lemmas.Bool.{true≢false}
use Rattle.std.proofs.lemmas.Int.{ints}
use Rattle.std.proofs.lemmas.List.{append-nil, append_assoc, get_or_default, length-append, length_push}
use Rattle.std.proofs.lemmas.List.Elements.{All-head, All-tail, Contains-append_left, Contains-append_right}
use Rattle.std.proofs.lemmas.List.Sorted.{Contains-permutation, IsPermutation-sym}
use Rattle.mcf_flows.specs.Network.{IsArcNumber, IsNode, at_node, node_count}
use Rattle.mcf_flows.specs.WellFormed.{IsUpTo}
use Rattle.mcf_network.specs.declared.rid.Rid.{Rid}
use Rattle.mcf_network.specs.Stars.{ListsLeaving}
use Rattle.mcf_network.specs.States.{Pseudoflow}
use Rattle.mcf_network.proofs.Lists.{All-behind, Contains-cons}
use Rattle.mcf_offers.specs.Offers.{Offer}
use Rattle.mcf_network.specs.Nets.{greatest_cost}
use Rattle.mcf_matching.specs.Private.Labels.{Row, Target}
use Rattle.mcf_matching.specs.declared.rows.RowArc.{RowArc}
use Rattle.mcf_matching.specs.declared.rows.Rows.{Rows}
use Rattle.mcf_matching.specs.declared.scene.Mate.{Mate}
use Rattle.mcf_matching.specs.Matchings.{IsColumn, IsMatchedColumn, IsPartialMatching, IsRow, column_of, row_of}
use Rattle.mcf_matching.specs.declared.search.Tables.{Tables}
use Rattle.mcf_matching.specs.Private.Keeping.{IsReady}
use Rattle.mcf_matching.specs.Private.Rooms.{KeepsSettled, all_forward, out_count}
use Rattle.mcf_matching.specs.Private.RowLists.{CostNoLess, IsBounded, IsRowArc, forward_of}
use Rattle.mcf_matching.specs.Private.Scenes.{IsScannedRow, IsScene}
use Rattle.mcf_matching.specs.Private.Searches.{AreRelaxed, HasForward, IsBestUpTo, IsPredecessor, IsOffered, IsSearch, KeepsLabels, Search, Settled, Waits, dist_at, forward, predecessor_at, offer}
use Rattle.mcf_matching.specs.Private.Searches.{offer_of, queued, search_of}
use Rattle.mcf_matching.specs.Private.Reaches.{base_reach}
use Rattle.mcf_matching.proofs.Near.{cost_short, row_near}
use Rattle.mcf_matching.specs.Private.Forests.{mate_at}
use Rattle.mcf_matching.proofs.Mating.{mate_none}
use Rattle.mcf_matching.proofs.PairLaws.{amount_is, column_is, column_matched}
use Rattle.mcf_matching.proofs.Rooms.{IsOut, all_has, kept_after, kept_same, outs_few, rid_is}
use Rattle.mcf_matching.proofs.RowLists.{ListsOut, row_out}

-- ---- other offers wait, or another target is the best

-- an offer that may wait: to a matched column, and no nearer than any settled node
abbrev pub MayWait : Pseudoflow → List ℤ → Search → Offer → Type 0
MayWait s y q o =
    IsMatchedColumn s o.column × IsPredecessor s y q o.arc o.column o.dist × ((u : ℕ) → IsNode (node_count s.net) u → Settled q u → dist_at q u ≤ℤ o.dist)

-- what may be the target: a column that is not matched, no nearer than any settled node
abbrev pub MayBeBest : Pseudoflow → List ℤ → Search → Target → Type 0
MayBeBest s y q t =
    IsPredecessor s y q t.arc (column_of s t.arc) t.dist × (¬ IsMatchedColumn s (column_of s t.arc)) × ((u : ℕ)
    → IsNode (node_count s.net) u → Settled q u → dist_at q u ≤ℤ t.dist)

module _ (s : Pseudoflow) (y : List ℤ) (q : Search) (source : ℕ) (rest : List Rid) (search : IsSearch s y q source rest) (queue : List Offer)
    (best : Option Target) where
  abbrev new : Search
  new = record q { queue = queue; best = best }

  predecessor_new : (k v : ℕ) (x : ℤ) → IsPredecessor s y q k v x → IsPredecessor s y new k v x
  predecessor_new k v x l = record { arc = l.arc; idle = l.idle; from = l.from; to = l.to; gives = l.gives }

  pub waits_fit : (o : Offer) → Waits q o → MayWait s y q o
  waits_fit o w = (let b = search.waiting o w in (b.0, b.1, λ u n h. search.level u o n h w))

  pub with_offers : (list : List Rid) → ((o : Offer) → Contains queue o → MayWait s y q o) → ((t : Target) → best ≡ Some t → MayBeBest s y q t)
      → ((k : ℕ) → IsArcNumber s.net k → Settled q (row_of s k) → IsOffered s y new k ⊎ Contains list (forward k)) → IsSearch s y new source list
  with_offers list waiting target offers =
      record {
        entries = search.entries;
        is_row = search.is_row;
        not_matched = search.not_matched;
        source_settled = search.source_settled;
        pairs = search.pairs;
        partners = search.partners;
        settled_columns = λ v h n. (let b = search.settled_columns v h n in (b.0, predecessor_new (predecessor_at q v) v (dist_at q v) b.1));
        waiting = λ o w. (let b = waiting o w in (b.0, predecessor_new o.arc o.column o.dist b.1));
        level = λ u o n h w. (waiting o w).2 u n h;
        best = λ t e. (let b = target t e in (predecessor_new t.arc (column_of s t.arc) t.dist b.0, b.1, b.2));
        offers = offers;
        near = search.near;
      }

-- an arc is relaxed: none that waited is taken out, the target is no farther, and the arc is
-- offered now
pub relaxed_ok : (s : Pseudoflow) (y : List ℤ) (q : Search) (source k : ℕ) (rest : List Rid) (queue : List Offer) (best : Option Target)
    → IsSearch s y q source (forward k ∷ rest) → ((o : Offer) → Contains queue o → MayWait s y q o) → ((o : Offer) → Waits q o → Contains queue o)
    → ((t : Target) → best ≡ Some t → MayBeBest s y q t) → ((x : ℤ) → IsBestUpTo q.best x → IsBestUpTo best x)
    → IsOffered s y (record q { queue = queue; best = best }) k → IsSearch s y (record q { queue = queue; best = best }) source rest
relaxed_ok s y q source k rest queue best search waiting still target better offered =
    with_offers s y q source (forward k ∷ rest) search queue best rest waiting target
    (λ j arc h. elim (search.offers j arc h) [
      | inl (inl there) ↦ inl (inl there)
      | inl (inr (inl waits)) ↦ inl (inr (inl (still (offer_of s y q j) waits)))
      | inl (inr (inr near)) ↦ inl (inr (inr (better (offer s y q j) near)))
      | inr has ↦ elim (Contains-cons (forward k) rest (forward j) has) [
        | inl e ↦ inl (subst (λ i. IsOffered s y (record q { queue = queue; best = best }) i) (ap (λ (x : Rid). x.arc) e) offered)
        | inr more ↦ inr more
      ]
    ])

-- the arc offers nothing of use
pub kept_ok : (s : Pseudoflow) (y : List ℤ) (q : Search) (source k : ℕ) (rest : List Rid) → IsSearch s y q source (forward k ∷ rest) → IsOffered s y q k
    → IsSearch s y q source rest
kept_ok s y q source k rest search offered =
    relaxed_ok s y q source k rest q.queue q.best search (waits_fit s y q source (forward k ∷ rest) search q.queue q.best) (λ o w. w) search.best (λ x h. h) offered

-- ---- lists of arcs, one after another

pub relaxed_after : (s : Pseudoflow) (y : List ℤ) (p q r : Search) (xs ys : List Rid) → AreRelaxed s y p q xs → AreRelaxed s y q r ys
    → AreRelaxed s y p r (xs ++ ys)
relaxed_after s y p q r xs ys first second source rest search =
    second source rest (first source (ys ++ rest) (subst (λ l. IsSearch s y p source l) (append_assoc xs ys rest) search))

-- ---- the row whose arcs are relaxed

-- it is as it was after some of them
pub row_kept : (s : Pseudoflow) (room : ℕ) (arcs : Rows) (y : List ℤ) (table : List Mate) (q q' : Search) (row : Row) → KeepsLabels q q'
    → IsScannedRow room s arcs y table q row → IsScannedRow room s arcs y table q' row
row_kept s room arcs y table q q' row labels was =
    subst (λ (x : Search). IsScannedRow room s arcs y table x row) (sym labels)
    (record { scene = was.scene; entries = was.entries; is_row = was.is_row; settled = was.settled; last = was.last; base = was.base; near = was.near })

-- the search, whose other arcs are relaxed
pub ready_search : {s : Pseudoflow} {y : List ℤ} {q : Search} {source row : ℕ} {order : List ℕ} → IsReady s y q source order row
    → IsSearch s y q source (all_forward s.net)
ready_search {s} ready = ready.search (all_forward s.net) (λ k arc from. all_has s.net k arc)

-- all arcs that leave it were relaxed
pub row_relaxed : (s : Pseudoflow) (y : List ℤ) (q q' : Search) (source u row : ℕ) (order : List ℕ) (list : List Rid) → u ≡ row → HasForward s.net u list
    → AreRelaxed s y q q' list → IsReady s y q source order row → IsSearch s y q' source []
row_relaxed s y q q' source u row order list at has relaxed ready =
    relaxed source [] (ready.search (list ++ []) (λ k arc from. Contains-append_left list [] (forward k) (has k arc (from ∙ sym at))))

-- there is room for the distance of the row less its price
base_near : {s : Pseudoflow} {room : ℕ} {arcs : Rows} {y : List ℤ} {table : List Mate} {q : Search} {source row : ℕ} {order : List ℕ}
    → IsScene room s arcs y table → IsReady s y q source order row → IsUpTo (base_reach s.net) (dist_at q row -ℤ at_node y row)
base_near {s} {y = y} {q = q} {source} {row} scene ready =
    let near = row_near s y q source row (all_forward s.net) scene.matching (ready_search ready) ready.is_row.0 ready.settled scene.small in
    let price = scene.small row ready.is_row.0 in
    (omega (arith, ints, near, price), omega (arith, ints, near, price))

pub base_fits : {s : Pseudoflow} {room : ℕ} {arcs : Rows} {y : List ℤ} {table : List Mate} {q : Search} {source row : ℕ} {order : List ℕ}
    → IsScene room s arcs y table → IsReady s y q source order row → IsUpTo room (dist_at q row -ℤ at_node y row)
base_fits scene ready =
    let near = base_near scene ready in
    let width = scene.width in
    (omega (arith, ints, near, width), omega (arith, ints, near, width))

-- the row as it is read
pub row_read : (s : Pseudoflow) (room : ℕ) (arcs : Rows) (y : List ℤ) (table : List Mate) (q : Search) (source : ℕ) (order : List ℕ) (row : Row) → IsScene room s arcs y table
    → IsReady s y q source order row.id → row.base ≡ dist_at q row.id -ℤ at_node y row.id → IsScannedRow room s arcs y table q row
row_read s room arcs y table q source order row scene ready base =
    record {
      scene = scene;
      entries = (ready_search ready).entries;
      is_row = ready.is_row;
      settled = ready.settled;
      last = ready.last;
      base = base;
      near = subst (λ x. IsUpTo (base_reach s.net) x) (sym base) (base_near scene ready);
    }

-- a target that is no farther than one number is no farther than a greater one
pub best_beyond : (best : Option Target) (x z : ℤ) → x ≤ℤ z → IsBestUpTo best x → IsBestUpTo best z
best_beyond None x z l h = h
best_beyond (Some t) x z l h = omega (arith, ints, l, h)

-- ---- what the code does with an arc of the row

-- a mark that the code reads
pub read_mark : (marks : List Bool) (i v : ℕ) (b : Bool) → b ≡ get_or marks i b → i ≡ v - 1 → i < length marks → get_or marks (v - 1) false ≡ b
read_mark marks i v b e same l =
    sym (e ∙ get_or_default marks i b false l ∙ ap (λ j. get_or marks j false) same)

pub some_same : (t u : Target) → Some t ≡ Some u → t ≡ u
some_same t u e = cc

module _ {s : Pseudoflow} {room : ℕ} {arcs : Rows} {y : List ℤ} {table : List Mate} {q : Search} {row : Row} {a : RowArc} (now : IsScannedRow room s arcs y table q row)
    (is : IsRowArc s.net row.id a) where
  abbrev Relaxes : Search → Type 0
  Relaxes new = AreRelaxed s y q new (forward_of a ∷ [])

  from : Settled q (row_of s a.arc)
  from = subst (λ v. Settled q v) (sym is.from) now.settled

  column : IsColumn s (column_of s a.arc)
  column = column_is s a.arc now.scene.matching is.arc

  -- a number is what it offers
  abbrev IsOffer : ℤ → Type 0
  IsOffer x = x ≡ row.base +ℤ a.cost +ℤ at_node y a.column

  gives : (x : ℤ) → IsOffer x → x ≡ offer s y q a.arc
  gives x e =
      let base = now.base in
      let here = ap (λ v. dist_at q v -ℤ at_node y v) is.from in
      let cost = is.cost in
      let price = ap (at_node y) is.to in
      omega (arith, ints, e, base, here, cost, price)

  -- no settled node is farther than what it offers
  farthest : (x : ℤ) → x ≡ offer s y q a.arc → (u : ℕ) → IsNode (node_count s.net) u → Settled q u → dist_at q u ≤ℤ x
  farthest x e u n h =
      let last = now.last u n h in
      let here = ap (dist_at q) is.from in
      let low = now.scene.prices.low a.arc is.arc in
      omega (arith, ints, last, here, low, e)

  -- if its column is not settled the arc carries nothing
  predecessor : (x : ℤ) (source : ℕ) (rest : List Rid) → x ≡ offer s y q a.arc → IsSearch s y q source rest → ¬ Settled q (column_of s a.arc)
      → IsPredecessor s y q a.arc (column_of s a.arc) x
  predecessor x source rest e search fresh =
      record {
        arc = is.arc;
        idle = elim (amount_is s a.arc now.scene.matching is.arc) [
          | inl none ↦ none
          | inr p ↦ absurd (fresh (search.pairs a.arc p from).0)
        ];
        from = from;
        to = refl;
        gives = e;
      }

  -- there is room for what it offers
  pub offer_fits : IsUpTo room (row.base +ℤ a.cost) × IsUpTo room (row.base +ℤ a.cost +ℤ at_node y a.column)
  offer_fits =
      let head = is.head in
      let base = now.near in
      let cost = is.small in
      let price = now.scene.small a.column head in
      let width = now.scene.width in
      let short = cost_short s.net 1 (omega (arith, head)) in (
        (omega (arith, ints, base, cost, width, short), omega (arith, ints, base, cost, width, short)),
        (omega (arith, ints, base, cost, price, width, short), omega (arith, ints, base, cost, price, width, short)),
      )

  pub arc_worse : (x : ℤ) → IsOffer x → IsBestUpTo q.best x → Relaxes q
  arc_worse x e worse source rest search =
      kept_ok s y q source a.arc rest search (inr (inr (subst (λ z. IsBestUpTo q.best z) (gives x e) worse)))

  mark : (b : Bool) (i : ℕ) → b ≡ get_or q.settled i b → i ≡ a.column - 1 → get_or q.settled (column_of s a.arc - 1) false ≡ b
  mark b i e place =
      let node = is.head in
      let count = now.entries.settled_count in
      read_mark q.settled i (column_of s a.arc) b e (place ∙ ap (λ v. v - 1) (sym is.to)) (omega (arith, node, count, place))

  pub arc_settled : (b : Bool) (i : ℕ) → b ≡ get_or q.settled i b → i ≡ a.column - 1 → b ≡ true → Relaxes q
  arc_settled b i e place marked source rest search =
      let settled : Settled q (column_of s a.arc) = mark b i e place ∙ marked in
      let far = farthest (offer s y q a.arc) refl (column_of s a.arc) column.0 settled in
      kept_ok s y q source a.arc rest search (inl (settled, far))

  pub arc_fresh : (b : Bool) (i : ℕ) → b ≡ get_or q.settled i b → i ≡ a.column - 1 → b ≡ false → ¬ Settled q (column_of s a.arc)
  arc_fresh b i e place unmarked h = absurd (true≢false (sym h ∙ mark b i e place ∙ unmarked))

  -- its column is not matched
  pub arc_best : (x : ℤ) → IsOffer x → (mate_at table a.column).arc ≡ 0 → ((z : ℤ) → IsBestUpTo q.best z → x ≤ℤ z)
      → ¬ Settled q (column_of s a.arc) → Relaxes (record q { best = Some (record { arc = a.arc; dist = x }) })
  arc_best x e none better fresh source rest search =
      let free : ¬ IsMatchedColumn s (column_of s a.arc) = λ m. mate_none s table now.scene.mates a.column none (m.0, m.1, inr (m.2 ∙ is.to)) in
      let same = gives x e in
      relaxed_ok s y q source a.arc rest q.queue (Some (record { arc = a.arc; dist = x })) search
      (waits_fit s y q source (forward a.arc ∷ rest) search q.queue q.best)
      (λ o w. w)
      (λ t et. subst (λ (u : Target). MayBeBest s y q u) (some_same _ t et) (predecessor x source (forward a.arc ∷ rest) same search fresh, free, farthest x same))
      better
      (inr (inr (omega (arith, ints, same))))

  -- its column is matched: the offer waits
  pub arc_queued : (x : ℤ) (list : List Offer) → IsOffer x → 0 < (mate_at table a.column).arc → ¬ Settled q (column_of s a.arc)
      → IsPermutation (record { dist = x; column = a.column; arc = a.arc } ∷ q.queue) list → Relaxes (queued q list)
  arc_queued x list e some fresh put source rest search =
      relaxed_ok s y q source a.arc rest list q.best search
      (λ p w. elim (Contains-cons o q.queue p (Contains-permutation list (o ∷ q.queue) p (IsPermutation-sym (o ∷ q.queue) list put) w)) [
        | inl at ↦ subst (λ (z : Offer). MayWait s y q z) at (subst (λ (z : Offer). MayWait s y q z) (sym here)
            (matched, predecessor (offer s y q a.arc) source (forward a.arc ∷ rest) refl search fresh, farthest (offer s y q a.arc) refl))
        | inr was ↦ waits_fit s y q source (forward a.arc ∷ rest) search q.queue q.best p was
      ])
      (λ p w. Contains-permutation (o ∷ q.queue) list p put (Contains-append_right (o ∷ []) q.queue p w))
      search.best
      (λ z h. h)
      (inr (inl (subst (λ (z : Offer). Contains list z) here (Contains-permutation (o ∷ q.queue) list o put (0, omega arith, refl)))))
    where
      o : Offer
      o = record { dist = x; column = a.column; arc = a.arc }

      made : ℤ → ℕ → Offer
      made z v = record { dist = z; column = v; arc = a.arc }

      here : o ≡ offer_of s y q a.arc
      here = ap (λ z. made z a.column) (gives x e) ∙ ap (made (offer s y q a.arc)) (sym is.to)

      matched : IsMatchedColumn s (column_of s a.arc)
      matched =
          let at = subst (λ v. IsColumn s v) is.to column in
          subst (λ v. IsMatchedColumn s v) (sym is.to) (column_matched s a.column now.scene.matching at (now.scene.mates.matched a.column at.0 some))

-- there is room for what arcs offer that cost a bound
pub bound_fits : {s : Pseudoflow} {room : ℕ} {arcs : Rows} {y : List ℤ} {table : List Mate} {q : Search} {row : Row} (cost : Option ℤ)
    → IsScannedRow room s arcs y table q row → IfSome cost (λ (bound : ℤ). IsUpTo (greatest_cost s.net.arcs) bound)
    → IfSome cost (λ (bound : ℤ). IsUpTo room (row.base +ℤ bound))
bound_fits None now small = tt
bound_fits {s} (Some bound) now small =
    let node = now.is_row.0 in
    let base = now.near in
    let width = now.scene.width in
    let short = cost_short s.net 1 (omega (arith, node)) in
    (omega (arith, ints, base, small, width, short), omega (arith, ints, base, small, width, short))

-- arcs of the row are of no use where what they cost at least offers no less than the target
dear_relaxed : (s : Pseudoflow) (room : ℕ) (arcs : Rows) (y : List ℤ) (table : List Mate) (q : Search) (row : Row) (bound : ℤ) (list : List RowArc)
    → IsScannedRow room s arcs y table q row → All (IsRowArc s.net row.id) list → CostNoLess bound list → IsBestUpTo q.best (row.base +ℤ bound)
    → AreRelaxed s y q q (map forward_of list)
dear_relaxed s room arcs y table q row bound [] now each dear worse = λ source rest search. search
dear_relaxed s room arcs y table q row bound (a ∷ list) now each dear worse =
    relaxed_after s y q q q (forward_of a ∷ []) (map forward_of list) (arc_worse now is x refl (best_beyond q.best (row.base +ℤ bound) x further worse))
    (dear_relaxed s room arcs y table q row bound list now (All-tail (IsRowArc s.net row.id) a list each)
    (All-tail (λ (b : RowArc). bound ≤ℤ b.cost) a list dear) worse)
  where
    is : IsRowArc s.net row.id a
    is = All-head (IsRowArc s.net row.id) a list each

    x : ℤ
    x = row.base +ℤ a.cost +ℤ at_node y a.column

    further : (row.base +ℤ bound) ≤ℤ x
    further =
        let cost = All-head (λ (b : RowArc). bound ≤ℤ b.cost) a list dear in
        let column = subst (λ v. IsColumn s v) is.to (column_is s a.arc now.scene.matching is.arc) in
        let price = now.scene.prices.columns a.column column in
        omega (arith, ints, cost, price)

-- so are those that are not kept
pub others_relaxed : (s : Pseudoflow) (room : ℕ) (arcs : Rows) (y : List ℤ) (table : List Mate) (q : Search) (row : Row) (cost : Option ℤ) (others : List RowArc)
    → IsScannedRow room s arcs y table q row → All (IsRowArc s.net row.id) others → IsBounded cost others
    → IfSome cost (λ (bound : ℤ). IsBestUpTo q.best (row.base +ℤ bound)) → AreRelaxed s y q q (map forward_of others)
others_relaxed s room arcs y table q row None others now each none worse =
    subst (λ (l : List RowArc). AreRelaxed s y q q (map forward_of l)) (sym none) (λ source rest search. search)
others_relaxed s room arcs y table q row (Some bound) others now each dear worse = dear_relaxed s room arcs y table q row bound others now each dear worse

-- ---- all arcs of a row

-- arcs of a list were relaxed, and the other arcs that leave the row are still to come
pub record IsScanned (s : Pseudoflow) (y : List ℤ) {W : Type 0} (old new : Tables W) (row : ℕ) (rest : List Rid) : Type 0 where
  pub list : List Rid
  pub relaxed : AreRelaxed s y (search_of old) (search_of new) list
  pub kept : KeepsSettled (length list) old new
  pub lists : ListsOut s.net row (list ++ rest)

pub scan_start : (s : Pseudoflow) (y : List ℤ) {W : Type 0} (p : Tables W) (row : ℕ) (rest : List Rid) → IsPartialMatching s → IsRow s row
    → ListsLeaving s.net row rest → IsScanned s y p p row rest
scan_start s y p row rest ok is_row lists =
    let one = is_row.1 in
    record {
      list = [];
      relaxed = λ source rest search. search;
      kept = kept_same p;
      lists = row_out s.net row ok.flow.of_net ok.problem rest (omega (arith, ints, one)) lists;
    }

pub scan_end : (s : Pseudoflow) (y : List ℤ) {W : Type 0} (p q : Tables W) (row : ℕ) → IsScanned s y p q row []
    → (list : List Rid) × HasForward s.net row list × AreRelaxed s y (search_of p) (search_of q) list
scan_end s y p q row scanned = (scanned.list, subst (HasForward s.net row) (append-nil scanned.list) scanned.lists.every, scanned.relaxed)

-- no more arcs were relaxed, with those that are still to come, than leave the row
scan_all_few : {s : Pseudoflow} {y : List ℤ} {W : Type 0} {p q : Tables W} {row : ℕ} {rest : List Rid} (scanned : IsScanned s y p q row rest)
    → length scanned.list + length rest ≤ out_count s.net (row ∷ [])
scan_all_few {s} {y} {W} {p} {q} {row} {rest} scanned =
    let few = outs_few s.net row (scanned.list ++ rest) scanned.lists.each scanned.lists.once in
    let both = length-append scanned.list rest in
    omega (arith, few, both)

-- as many offers more wait as arcs leave the row at most
pub scan_kept : (s : Pseudoflow) (y : List ℤ) {W : Type 0} (p q : Tables W) (row : ℕ) (rest : List Rid) → IsScanned s y p q row rest
    → KeepsSettled (out_count s.net (row ∷ [])) p q
scan_kept s y p q row rest scanned =
    let few = scan_all_few scanned in
    kept_after (length scanned.list) 0 (out_count s.net (row ∷ [])) p q q scanned.kept (kept_same q) (omega (arith, few))

module _ {s : Pseudoflow} {y : List ℤ} {W : Type 0} {p q : Tables W} {row : ℕ} {r : Rid} {rest : List Rid} (scanned : IsScanned s y p q row (r ∷ rest)) where
  pub scan_out : IsOut s.net row r
  scan_out = All-head (IsOut s.net row) r rest (All-behind (IsOut s.net row) scanned.list (r ∷ rest) scanned.lists.each)

  -- fewer arcs were relaxed than leave the row
  pub scan_few : length scanned.list < out_count s.net (row ∷ [])
  scan_few = let few = scan_all_few scanned in omega (arith, few)

  -- one more was relaxed
  pub scan_more : (q' : Tables W) → AreRelaxed s y (search_of q) (search_of q') (forward r.arc ∷ []) → KeepsSettled 1 q q' → IsScanned s y p q' row rest
  scan_more q' relaxed one =
      let longer = length_push scanned.list r in
      record {
        list = scanned.list ++ r ∷ [];
        relaxed = relaxed_after s y (search_of p) (search_of q) (search_of q') scanned.list (r ∷ []) scanned.relaxed
            (subst (λ x. AreRelaxed s y (search_of q) (search_of q') (x ∷ [])) (rid_is r scan_out.forth) relaxed);
        kept = kept_after (length scanned.list) 1 (length (scanned.list ++ r ∷ [])) p q q' scanned.kept one (omega (arith, longer));
        lists = subst (ListsOut s.net row) (sym (append_assoc scanned.list (r ∷ []) rest)) scanned.lists;
      }
