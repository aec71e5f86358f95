-- New prices that were judged show the matching, and a matching keeps them.
use Rattle.std.proofs.Common.{rules, ◌≡◌, ℕ, ◌+◌, ◌-◌, ◌^◌, Bool, List, [], Option, None, Some, cond, true, false, get_or, length, map, take, drop, ℤ, pos, ◌+ℤ◌, ◌-ℤ◌, ◌≤ℤ◌, ◌<ℤ◌, sym, ◌∙◌, ap, subst, arith, inl, inr}
use Rattle.std.specs.List.{All, Contains}
use Rattle.std.proofs.lemmas.List.Elements.{All-contains, All-map, Contains-append_cases}
use Rattle.std.proofs.lemmas.Int.{ints}
use Rattle.std.proofs.lemmas.Bool.{true≢false}
use Rattle.std.specs.Option.{is_some}
use Rattle.std.specs.Cmp.{int_ranks}
use Rattle.std.proofs.lemmas.Cmp.{by_ranked}
use Rattle.std.specs.Ordering.{int_cmp, is_le, is_lt, ord_min}
use Rattle.std.specs.Prelude.{slice_range}
use Rattle.std.proofs.lemmas.List.{get_or_default}
use Rattle.mcf_flows.specs.Network.{Network, IsArcNumber, IsNode, at_node, node_count}
use Rattle.mcf_flows.specs.WellFormed.{IsUpTo}
use Rattle.mcf_network.specs.declared.rid.Rid.{Rid}
use Rattle.mcf_network.specs.Residual.{arc_at}
use Rattle.mcf_network.specs.States.{Pseudoflow}
use Rattle.mcf_matching.specs.declared.rows.RowArc.{RowArc}
use Rattle.mcf_matching.specs.declared.rows.Rows.{Rows}
use Rattle.mcf_matching.specs.declared.rows.Span.{Span}
use Rattle.mcf_matching.specs.declared.scene.Mate.{Mate}
use Rattle.mcf_matching.specs.declared.search.Tables.{Tables}
use Rattle.mcf_matching.specs.Extending.{IsMatched}
use Rattle.mcf_matching.specs.Matchings.{AreMatchingPrices, IsPair, IsPartialMatching, reduced, row_of}
use Rattle.mcf_matching.specs.Private.Keeping.{AreNearZero, FreeRowsAreFirst, IsKept}
use Rattle.mcf_matching.specs.Private.Reaches.{HasWidth, price_reach}
use Rattle.mcf_matching.specs.Private.RowLists.{AreRows, IsKeptRow, IsRowArc, forward_of, span_at}
use Rattle.mcf_matching.specs.Private.Updating.{AreUpdated, DoesArcFit, DoesNodeFit, IsReadable}
use Rattle.mcf_matching.proofs.Near.{cost_short}
use Rattle.mcf_matching.proofs.PairLaws.{column_matched, row_matched}
use Rattle.mcf_matching.proofs.RowLists.{kept_row}
use Rattle.mcf_matching.specs.Private.Searches.{forward}

-- ---- the arcs of a row

pub slice_none : (xs : List RowArc) (i j : ℕ) → i ≡ j → slice_range xs i j ≡ []
slice_none xs i j e = let none : j - i ≡ 0 = omega (arith, e) in ap (λ n. take n (drop i xs)) none

-- a row without others, as it was read
pub whole_row : {g : Network} (rows : Rows) {v : ℕ} {x : Span} {list : List RowArc} → AreRows g rows → IsNode (node_count g) v
    → x ≡ span_at rows.spans.items v → list ≡ slice_range rows.arcs.items x.start x.end → is_some x.others ≡ false → IsKeptRow g v list None
whole_row {g} rows {v} {x} {list} are node at e none = alone x.others (kept_row g rows v x list are node at e) none
  where
    alone : (others : Option ℤ) → IsKeptRow g v list others → is_some others ≡ false → IsKeptRow g v list None
    alone None row e = row
    alone (Some bound) row e = absurd (true≢false e)

module _ {g : Network} {v : ℕ} {kept : List RowArc} (row : IsKeptRow g v kept None) where
  -- if there are no others
  kept_has : (k : ℕ) → IsArcNumber g k → (arc_at g k).src ≡ v → Contains (map forward_of kept) (forward k)
  kept_has k arc from =
      elim (Contains-append_cases (map forward_of kept) (map forward_of row.others) (forward k) (row.every k arc from)) [
        | inl has ↦ has
        | inr other ↦ absurd (
            let (i, h, e) = subst (λ (l : List RowArc). Contains (map forward_of l) (forward k)) row.dearer other in
            omega (arith, h))
      ]

  pub none_leaves : kept ≡ [] → (k : ℕ) → IsArcNumber g k → (arc_at g k).src ≡ v → ⊥
  none_leaves e k arc from =
      let (i, h, same) = subst (λ (l : List RowArc). Contains (map forward_of l) (forward k)) e (kept_has k arc from) in
      omega (arith, h)

  module _ (z : List ℤ) (x : ℤ) (least : All (λ (a : RowArc). x ≤ℤ (a.cost +ℤ at_node z a.column)) kept) where
    abbrev Low : Rid → Type 0
    Low r = x ≤ℤ ((arc_at g r.arc).cost +ℤ at_node z (arc_at g r.arc).dst)

    each_low : All (λ (a : RowArc). Low (forward_of a)) kept
    each_low i d h =
        let is = row.each i d h in
        let low = least i d h in
        let cost = is.cost in
        let price = ap (at_node z) is.to in
        omega (arith, ints, low, cost, price)

    pub low_offer : (k : ℕ) → IsArcNumber g k → (arc_at g k).src ≡ v → x ≤ℤ ((arc_at g k).cost +ℤ at_node z (arc_at g k).dst)
    low_offer k arc from = All-contains Low (map forward_of kept) (forward k) (All-map Low forward_of kept each_low) (kept_has k arc from)

-- one that isn't less than another
pub not_less : (x y : ℤ) → is_lt (int_cmp x y) ≡ false → y ≤ℤ x
not_less x y h =
    by_ranked (x <ℤ y) (x ≡ y) (y <ℤ x) (int_cmp x y) (int_ranks x y) (λ e _. absurd (true≢false (sym (ap is_lt e) ∙ h)))
    (λ _ l. omega (arith, ints, l)) (λ _ l. omega (arith, ints, l))

-- one that is no greater
pub not_more : (x y : ℤ) → is_le (int_cmp x y) ≡ true → x ≤ℤ y
not_more x y h =
    by_ranked (x <ℤ y) (x ≡ y) (y <ℤ x) (int_cmp x y) (int_ranks x y) (λ _ l. omega (arith, ints, l)) (λ _ l. omega (arith, ints, l))
    (λ e _. absurd (true≢false (sym h ∙ ap is_le e)))

-- a new price that was compared
pub node_fits : (s : Pseudoflow) (y : List ℤ) (v : ℕ) (x old : ℤ) {reach low : ℤ} → reach ≡ pos (price_reach s.net) → low ≡ pos 0 -ℤ reach
    → is_lt (int_cmp x low) ≡ false → is_lt (int_cmp reach x) ≡ false → is_lt (int_cmp x old) ≡ false → old ≡ at_node y v
    → (¬ IsMatched s v → x ≡ at_node y v) → DoesNodeFit s y v x
node_fits s y v x old {reach} {low} top bottom above below rises at free =
    let a = not_less x low above in
    let b = not_less reach x below in
    let c = not_less x old rises in
    record { near = (omega (arith, ints, a, top, bottom), omega (arith, ints, b, top)); above = omega (arith, ints, c, at); free = free }

-- the lesser of two
pub least_low : (x y z : ℤ) → z ≡ ord_min int_cmp x y → (z ≤ℤ x) × (z ≤ℤ y)
least_low x y z e =
    by_ranked (y <ℤ x) (y ≡ x) (x <ℤ y) (int_cmp y x) (int_ranks y x)
    (λ o l. let at = e ∙ ap (λ r. cond (is_lt r) y x) o in (omega (arith, ints, l, at), omega (arith, ints, at)))
    (λ o l. let at = e ∙ ap (λ r. cond (is_lt r) y x) o in (omega (arith, ints, at), omega (arith, ints, l, at)))
    (λ o l. let at = e ∙ ap (λ r. cond (is_lt r) y x) o in (omega (arith, ints, at), omega (arith, ints, l, at)))

-- an arc of a row can be read by prices that are near 0
pub read_arc : (g : Network) (v : ℕ) (z : List ℤ) (a : RowArc) → IsRowArc g v a → length z ≡ node_count g → HasWidth (2 ^ 63 - 1) g
    → ((u : ℕ) → IsNode (node_count g) u → IsUpTo (price_reach g) (at_node z u)) → IsReadable z a
read_arc g v z a is count width near =
    let head = is.head in
    let cost = is.small in
    let price = near a.column head in
    let short = cost_short g 1 (omega (arith, head)) in
    record {
      column = (omega (arith, head), omega (arith, head, count));
      fits = (omega (arith, ints, cost, price, short, width), omega (arith, ints, cost, price, short, width));
    }

-- each of them can
pub readable : (g : Network) (v : ℕ) (z : List ℤ) (kept : List RowArc) → All (IsRowArc g v) kept → length z ≡ node_count g
    → HasWidth (2 ^ 63 - 1) g → ((u : ℕ) → IsNode (node_count g) u → IsUpTo (price_reach g) (at_node z u)) → All (IsReadable z) kept
readable g v z kept each count width near i d h = read_arc g v z (get_or kept i d) (each i d h) count width near

-- the arc of a pair, as it was read, costs nothing if it offers no more than the price of its row
pub pair_tight : (s : Pseudoflow) (g : Network) (z : List ℤ) (v k : ℕ) (a : RowArc) → g ≡ s.net → a.arc ≡ k → IsRowArc g (arc_at g k).src a → row_of s k ≡ v
    → (a.cost +ℤ at_node z a.column) ≤ℤ at_node z v → reduced s z k ≤ℤ pos 0
pair_tight s g z v k a net number is from below =
    let cost = ap (λ (n : Network). (arc_at n k).cost) (sym net) ∙ ap (λ j. (arc_at g j).cost) (sym number) ∙ is.cost in
    let to = ap (λ (n : Network). (arc_at n k).dst) (sym net) ∙ ap (λ j. (arc_at g j).dst) (sym number) ∙ is.to in
    let price = ap (at_node z) to in
    let at = ap (at_node z) from in
    omega (arith, ints, cost, price, at, below)

-- the arcs of a row fit where none offers less than the price of the row, and that of its pair no
-- more
pub row_fits : (s : Pseudoflow) (z : List ℤ) {v : ℕ} {kept : List RowArc} → IsKeptRow s.net v kept None
    → All (λ (a : RowArc). at_node z v ≤ℤ (a.cost +ℤ at_node z a.column)) kept → ((k : ℕ) → IsPair s k → row_of s k ≡ v → reduced s z k ≤ℤ pos 0)
    → (k : ℕ) → IsArcNumber s.net k → row_of s k ≡ v → DoesArcFit s z k
row_fits s z {v} {kept} row least tight k arc from =
    let offered = low_offer row z (at_node z v) least k arc from in
    let at = ap (at_node z) from in
    let low : pos 0 ≤ℤ reduced s z k = omega (arith, ints, offered, at) in
    record { low = low; tight = λ p. (let high = tight k p from in omega (arith, ints, low, high)) }

-- ---- judged prices

module _ (s : Pseudoflow) (y z : List ℤ) (ok : IsPartialMatching s) (shown : AreMatchingPrices s y) (count : length z ≡ node_count s.net)
    (nodes : (v : ℕ) → IsNode (node_count s.net) v → DoesNodeFit s y v (at_node z v))
    (arcs : (k : ℕ) → IsArcNumber s.net k → DoesArcFit s z k) where
  judged : AreMatchingPrices s z
  judged =
      record {
        count = count;
        low = λ k arc. (arcs k arc).low;
        tight = λ k p. (arcs k p.arc).tight p;
        columns = λ v column. let old = shown.columns v column in let above = (nodes v column.0).above in omega (arith, ints, old, above);
        free = λ v column none. (nodes v column.0).free (λ m. none (column_matched s v ok column m)) ∙ shown.free v column none;
      }

  pub judged_updated : AreUpdated s y z
  judged_updated =
      record {
        count = count;
        near = λ i d inside.
            let here = (nodes (i + 1) (omega arith, omega (arith, inside, count))).near in
            let back : i + 1 - 1 ≡ i = omega arith in
            let same : at_node z (i + 1) ≡ get_or z i d = ap (λ j. get_or z j (pos 0)) back ∙ get_or_default z i (pos 0) d inside in
            subst (λ a. IsUpTo (price_reach s.net) a) same here;
        shown = judged;
        free_rows = λ v row free. (nodes v row.0).free (λ m. free (row_matched s v ok row m));
      }

-- ---- what a matching keeps

updated_near : (s : Pseudoflow) (y z : List ℤ) → AreUpdated s y z → AreNearZero s z
updated_near s y z new v n =
    let count = new.count in
    let here = new.near (v - 1) (pos 0) (omega (arith, n, count)) in
    (omega (arith, ints, here), omega (arith, ints, here))

-- with another count of pairs
pub kept_counted : {s : Pseudoflow} {y : List ℤ} {mates : List Mate} {W : Type 0} {tables : Tables W} {reached : List Bool} {n : ℕ} → IsKept s y mates tables reached
    → IsKept s y mates (record tables { pairs = n }) reached
kept_counted kept = search rules

-- with new prices
pub kept_updated : {s : Pseudoflow} {y z : List ℤ} {mates : List Mate} {W : Type 0} {tables : Tables W} {reached : List Bool} → IsKept s y mates tables reached
    → AreUpdated s y z → IsKept s z mates tables reached
kept_updated {s} {y} {z} kept new =
    let shown = new.shown in
    let near = updated_near s y z new in
    let free_rows : FreeRowsAreFirst s z = λ v row free. new.free_rows v row free ∙ kept.free_rows v row free in
    search rules
