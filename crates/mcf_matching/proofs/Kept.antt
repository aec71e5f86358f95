-- What a matching keeps, and what a search did to it.
use Rattle.std.proofs.Common.{◌≡◌, ◌+◌, ◌*◌, ◌≢◌, ℕ, ◌-◌, ◌<◌, ◌≤◌, Bool, true, ltb, List, [], ◌∷◌, ◌++◌, length, get_or, take, replicate, None, Some, ℤ, pos, refl}
use Rattle.std.proofs.Common.{false, sym, ◌∙◌, ap, subst, arith, ◌⊎◌, inl, inr, set, length-set, ◌<ℤ◌, ◌≤ℤ◌, vec_capacity}
use Rattle.std.specs.List.{All, Contains}
use Rattle.std.proofs.lemmas.Int.{ints}
use Rattle.std.proofs.lemmas.Bool.{cases_eq, ltb-true, lt-ltb}
use Rattle.std.proofs.Math.Seq.{take-append_seam}
use Rattle.std.proofs.lemmas.List.{get_or-replicate, length-replicate}
use Rattle.std.proofs.lemmas.List.Elements.{All-contains, Contains-append_left, Contains-get_or, Contains-push, Contains-push_cases}
use Rattle.std.proofs.lemmas.List.Quantifiers.{all_pairs_push}
use Rattle.mcf_flows.specs.declared.problem.Problem.TheVariants.{Asn}
use Rattle.mcf_flows.specs.Blocking.{in_table}
use Rattle.mcf_flows.specs.Network.{Network, IsNode, at_node, node_count}
use Rattle.mcf_network.specs.Residual.{head, tail}
use Rattle.mcf_network.specs.States.{Pseudoflow, IsPseudoflow}
use Rattle.mcf_network.specs.Stuck.{IsStuck}
use Rattle.mcf_network.proofs.ArcLaws.{head_is_node, tail_is_node}
use Rattle.mcf_network.proofs.StateLaws.{rid}
use Rattle.mcf_network.proofs.StuckLaws.{stuck_sets_block_lem}
use Rattle.mcf_network.proofs.Marks.{read_node}
use Rattle.mcf_matching.specs.declared.rows.Rows.{Rows}
use Rattle.mcf_matching.specs.declared.scene.Mate.{Mate}
use Rattle.mcf_matching.specs.declared.search.Tables.{Tables}
use Rattle.mcf_matching.specs.Private.Labels.{Target}
use Rattle.mcf_matching.specs.Extending.{IsGrown, IsMatched, IsReachable, IsSettledList, IsShownMatching, IsStopped}
use Rattle.mcf_matching.specs.Private.Forests.{AreMates, IsChangedWithin, IsOrder, mate, mate_at}
use Rattle.mcf_matching.specs.Private.Keeping.{AreFirstPrices, AreNearZero, FreeRowsAreFirst, IsEnded, IsIdle, IsKept}
use Rattle.mcf_matching.specs.Private.Reaches.{HasWidth, first_price}
use Rattle.mcf_matching.specs.Matchings.{AreMatchingPrices, IsColumn, IsMatchedRow, IsPair, IsPartialMatching, IsRow, column_of, row_of}
use Rattle.mcf_matching.specs.Private.RowLists.{AreRows}
use Rattle.mcf_matching.specs.Private.Scenes.{IsScene}
use Rattle.mcf_matching.specs.Private.Searches.{AreRaised, HasEntries, Search, Settled, search_of}
use Rattle.mcf_matching.specs.Private.Turning.{IsExtended}
use Rattle.mcf_matching.proofs.Beginning.{over_stuck}
use Rattle.mcf_matching.proofs.Found.{found_column, found_free, found_new, found_prices}
use Rattle.mcf_matching.proofs.LeastMatchings.{least_matching}
use Rattle.mcf_matching.proofs.Near.{cost_near, cost_short, reach_small, target_near}
use Rattle.mcf_matching.proofs.Mating.{mate_arc}
use Rattle.mcf_matching.proofs.Orders.{forth_room}
use Rattle.mcf_matching.proofs.PairLaws.{column_is, row_is}
use Rattle.mcf_matching.proofs.Raised.{settled_or_not}
use Rattle.mcf_matching.proofs.Surpluses.{row_or_column}

-- a target of its parts
abbrev pub target : ℕ → ℤ → Target
target k x = record { arc = k; dist = x }

-- what a mutable slice of a whole vector leaves
pub written : {X : Type 0} (n : ℕ) (xs ys : List X) → n ≡ length xs → take n (xs ++ ys) ≡ xs
written n xs ys e = ap (λ k. take k (xs ++ ys)) e ∙ take-append_seam xs ys

pub shown_kept : {s : Pseudoflow} {y : List ℤ} {mates : List Mate} {W : Type 0} {tables : Tables W} {reached r : List Bool} {l : List ℕ} {n : ℕ}
    → IsKept s y mates tables reached → IsShownMatching (record { flow = s; prices = y; settled = l; reached = r; searches = n })
shown_kept {s} {y} kept = record { matching = kept.matching; shown = kept.shown; least = least_matching s y kept.matching kept.shown }

-- what a search or an update reads
pub scene_kept : {s : Pseudoflow} {y : List ℤ} {mates table : List Mate} {W : Type 0} {tables : Tables W} {reached : List Bool} {rows : Rows} {room : ℕ} → IsKept s y mates tables reached
    → AreRows s.net rows → HasWidth room s.net → table ≡ mates → IsScene room s rows y table
scene_kept {s} kept rows width same =
    record { matching = kept.matching; rows = rows; prices = kept.shown; mates = subst (AreMates s) (sym same) kept.mated; small = kept.near; width = width }

-- whether a node is matched, as its mate tells
pub mates_tell : (s : Pseudoflow) (mates : List Mate) (v : ℕ) → AreMates s mates → IsNode (node_count s.net) v
    → (ltb 0 (mate_at mates v).arc ≡ true → IsMatched s v) × (IsMatched s v → ltb 0 (mate_at mates v).arc ≡ true)
mates_tell s mates v mated n = (
  λ h. mated.matched v n (ltb-true 0 (mate_at mates v).arc h),
  λ (k, p, at). lt-ltb 0 (mate_at mates v).arc (let is = mate_arc s mates mated v k p at in let arc = p.arc in omega (arith, is, arc)),
)

-- ---- one row more

module _ {s : Pseudoflow} {y z : List ℤ} {q : Search} {row : ℕ} {order : List ℕ} {t : Target} (ok : IsPartialMatching s) (shown : AreMatchingPrices s y)
    (ended : IsEnded s y q row order) (best : q.best ≡ Some t) (raised : AreRaised s q t.dist y z) where
  abbrev c : ℕ
  c = column_of s t.arc

  settled_more : IsSettledList (node_count s.net) row (order ++ c ∷ [])
  settled_more =
      let o = ended.order_ok in
      let column = found_column ok shown ended best in
      let fresh : ¬ Contains order c = λ (h : Contains order c). found_new ok shown ended best (o.members c h) in
      record {
        rest = o.rest ++ c ∷ [];
        first = ap (λ l. l ++ c ∷ []) o.first;
        once = all_pairs_push (λ u v. u ≢ v) order c o.once (λ k d l e. fresh (subst (λ v. Contains order v) e (Contains-get_or order k d l)));
        each = λ k d l. elim (Contains-push_cases order c (get_or (order ++ c ∷ []) k d) (Contains-get_or (order ++ c ∷ []) k d l)) [
          | inl was ↦ All-contains (IsNode (node_count s.net)) order (get_or (order ++ c ∷ []) k d) o.nodes was
          | inr e ↦ subst (λ v. IsNode (node_count s.net) v) e column.0
        ];
      }

  listed_more : (v : ℕ) → IsNode (node_count s.net) v → Settled q v → Contains (order ++ c ∷ []) v
  listed_more v n h = Contains-append_left order (c ∷ []) v (ended.order_ok.listed v n h)

  end_reachable : IsReachable s row c
  end_reachable set closed has =
      let l = (ended.search.best t best).0 in
      closed (rid t.arc false) (forth_room s t.arc ok l.arc l.idle)
      (ended.order_ok.reachable (row_of s t.arc) (row_is s t.arc ok l.arc).0 l.from set closed has)

  pub grown_from : {s' : Pseudoflow} {z' : List ℤ} {l0 l1 : List ℕ} {r : List Bool} {n0 n1 : ℕ} → IsExtended s s' z row c → IsChangedWithin s s' q c
      → l1 ≡ order ++ c ∷ [] → n1 ≡ n0 + 1
      → IsGrown (record { flow = s; prices = y; settled = l0; reached = r; searches = n0 }) row
      (record { flow = s'; prices = z'; settled = l1; reached = r; searches = n1 })
  grown_from {s' = s'} ext changed e counted =
      record {
        net = ext.net;
        path = ext.path;
        rows = λ v. (λ h. ext.rows v h, λ h. row_now v h);
        columns = ext.columns_kept;
        settled = subst (λ l. IsSettledList (node_count s.net) row l) (sym e) settled_more;
        changed = λ k arc n. elim (changed k arc) [
          | inl same ↦ absurd (n same)
          | inr both ↦ (
            subst (λ l. Contains l (row_of s k)) (sym e) (listed_more (row_of s k) (row_is s k ok arc).0 both.0),
            elim both.1 [
              | inl h ↦ subst (λ l. Contains l (column_of s k)) (sym e) (listed_more (column_of s k) (column_is s k ok arc).0 h)
              | inr at ↦ subst (λ l. Contains l (column_of s k)) (sym e) (subst (λ v. Contains (order ++ c ∷ []) v) (sym at) (Contains-push order c))
            ],
          )
        ];
        reachable = λ v h. elim (Contains-push_cases order c v (subst (λ l. Contains l v) e h)) [
          | inl was ↦ ended.order_ok.reachable v (All-contains (IsNode (node_count s.net)) order v ended.order_ok.nodes was) (ended.order_ok.members v was)
          | inr at ↦ subst (λ u. IsReachable s row u) at end_reachable
        ];
        reached = refl;
        searches = counted;
      }
    where
      row_now : (v : ℕ) → IsMatchedRow s v ⊎ (v ≡ row) → IsMatchedRow s' v
      row_now v (inl h) = ext.rows_kept v h
      row_now v (inr at) = subst (λ u. IsMatchedRow s' u) (sym at) ext.row_matched

  module _ (near : AreNearZero s y) (first : FreeRowsAreFirst s y) (row_is_row : IsRow s row) where
    near_now : AreNearZero s z
    near_now v n =
        let column = found_column ok shown ended best in
        let top = target_near s y q row [] t ok ended.search best in
        let at_row = first row row_is_row ended.search.not_matched in
        let at_column = shown.free c column (found_free ok shown ended best) in
        let few = reach_small s y q row [] ended.search in
        let was = near v n in
        elim (settled_or_not q v) [
          | inl h ↦ (
              let now = raised.settled v n h in
              let far = ended.search.near v n h in (
                omega (arith, ints, top, at_row, at_column, few, now, far),
                omega (arith, ints, top, at_row, at_column, few, now, far),
              ))
          | inr g ↦ (let now = raised.others v n g in (omega (arith, ints, now, was), omega (arith, ints, now, was)))
        ]

    module _ (amounts : List ℤ) (ext : IsExtended s (record { net = s.net; amounts = amounts }) z row c) where
      shown_now : AreMatchingPrices (record { net = s.net; amounts = amounts }) z
      shown_now =
          let prices = found_prices ok shown ended best z raised in
          record {
            count = prices.count;
            low = prices.low;
            tight = ext.tight;
            columns = prices.columns;
            free = λ v column none. prices.free v column (λ m. none (ext.columns_kept v m));
          }

      first_now : FreeRowsAreFirst (record { net = s.net; amounts = amounts }) z
      first_now v is none =
          let unsettled : ¬ Settled q v = λ (h : Settled q v). elim (ended.order_ok.rows v is h) [
            | inl e ↦ none (subst (λ u. IsMatchedRow (record { net = s.net; amounts = amounts }) u) (sym e) ext.row_matched)
            | inr m ↦ none (ext.rows_kept v m)
          ] in
          raised.others v is.0 unsettled ∙ first v is (λ m. none (ext.rows_kept v m))

  pub idle_more : {W : Type 0} {tables : Tables W} → search_of tables ≡ q → tables.order.items ≡ order ++ c ∷ [] → node_count s.net ≤ vec_capacity tables.order
      → 2 * length s.net.arcs ≤ tables.offers.room → IsIdle s.net tables
  idle_more same list room queue =
      record {
        entries = subst (λ (x : Search). HasEntries (node_count s.net) x) (sym same) ended.search.entries;
        room = room;
        queue = queue;
        each = subst (λ (l : List ℕ). All (IsNode (node_count s.net)) l) (sym list) settled_more.each;
        listed = λ v n h. subst (λ (l : List ℕ). Contains l v) (sym list) (listed_more v n (subst (λ (x : Search). Settled x v) same h));
      }

pub kept_grown : {s s' : Pseudoflow} {y z : List ℤ} {mates mates' : List Mate} {W : Type 0} {tables tables' : Tables W} {reached : List Bool} {q : Search} {row : ℕ}
    {order : List ℕ} {t : Target} → IsKept s y mates tables reached → IsRow s row → IsEnded s y q row order → q.best ≡ Some t → AreRaised s q t.dist y z
    → IsExtended s s' z row (column_of s t.arc) → AreMates s' mates' → IsIdle s.net tables' → IsKept s' z mates' tables' reached
kept_grown {s} {s'} {z = z} {mates' = mates'} {tables' = tables'} {reached} {row = row} {t = t} kept is ended best raised ext mated idle =
    let P : Network → Type 0 = λ n. IsExtended s (record { net = n; amounts = s'.amounts }) z row (column_of s t.arc)
    → AreMates (record { net = n; amounts = s'.amounts }) mates' → IsKept (record { net = n; amounts = s'.amounts }) z mates' tables' reached in
    subst P (sym ext.net) (λ x m. record {
      matching = x.matching;
      shown = shown_now kept.matching kept.shown ended best raised kept.near kept.free_rows is s'.amounts x;
      mated = m;
      idle = idle;
      near = near_now kept.matching kept.shown ended best raised kept.near kept.free_rows is;
      free_rows = first_now kept.matching kept.shown ended best raised kept.near kept.free_rows is s'.amounts x;
      count = kept.count;
    }) ext mated

-- ---- none more

pub stopped_from : {s : Pseudoflow} {y y' y0 : List ℤ} {q : Search} {row : ℕ} {order l0 : List ℕ} {r0 set : List Bool} {n0 n1 : ℕ} → IsPartialMatching s
    → IsEnded s y q row order → q.best ≡ None → length set ≡ node_count s.net
    → ((v : ℕ) → IsNode (node_count s.net) v → (in_table set v ≡ true → Contains order v) × (Contains order v → in_table set v ≡ true)) → n1 ≡ n0 + 1
    → IsStopped (record { flow = s; prices = y0; settled = l0; reached = r0; searches = n0 }) row
    (record { flow = s; prices = y'; settled = order; reached = set; searches = n1 })
stopped_from {s} {y} {q = q} {row} {order} {set = set} ok ended none count members counted =
    record {
      flow = refl;
      settled = record { rest = o.rest; first = o.first; once = o.once; each = o.nodes };
      one_per_node = count;
      all = members;
      reachable = λ v n. (λ h. o.reachable v n (out v n h), λ r. into v n (r (in_table q.settled) stuck.closed ended.search.source_settled));
      blocks = stuck_sets_block_lem s (in_table set) ok.flow now;
      searches = counted;
    }
  where
    o : IsOrder s q row order
    o = ended.order_ok

    out : (v : ℕ) → IsNode (node_count s.net) v → in_table set v ≡ true → Settled q v
    out v n h = o.members v ((members v n).0 h)

    into : (v : ℕ) → IsNode (node_count s.net) v → Settled q v → in_table set v ≡ true
    into v n h = (members v n).1 (o.listed v n h)

    stuck : IsStuck s (in_table q.settled)
    stuck = over_stuck s y q row ok ended.search ended.over none

    now : IsStuck s (in_table set)
    now =
        record {
          closed = λ r room h. into (head s.net r) (head_is_node s.net r.arc r.back ok.flow.of_net room.arc)
              (stuck.closed r room (out (tail s.net r) (tail_is_node s.net r.arc r.back ok.flow.of_net room.arc) h));
          no_deficit = λ v n h. stuck.no_deficit v n (out v n h);
          source = (let x = stuck.source in (x.0, x.1, into x.0 x.1 x.2, x.3));
        }

-- ---- the first matching

abbrev first_state : Network → Pseudoflow
first_state g = record { net = g; amounts = replicate (length g.arcs) (pos 0) }

pub no_pair : (g : Network) (k : ℕ) → IsPair (first_state g) k → ⊥
no_pair g k p =
    let one = p.one in
    let arc = p.arc in
    let zero_at : get_or (replicate (length g.arcs) (pos 0)) (k - 1) (pos 0) ≡ pos 0 = get_or-replicate (length g.arcs) (k - 1) (pos 0) (pos 0) (omega arith) in
    omega (arith, ints, one, zero_at)

-- one node more: a row, or another node
pub row_first : (g : Network) (y : List ℤ) (n : ℕ) (x : ℤ) → AreFirstPrices g y n → n < node_count g → pos 0 <ℤ at_node g.supplies (n + 1) → x ≡ first_price g
    → AreFirstPrices g (set y n x) (n + 1)
row_first g y n x was inside row is =
    subst (λ i. AreFirstPrices g (set y i x) (n + 1)) (let e : n + 1 - 1 ≡ n = omega arith in e) (record {
      one_per_node = length-set y (n + 1 - 1) x ∙ was.one_per_node;
      rows = λ v m up. elim (read v m.0) [
        | inl (e, a) ↦ a ∙ is
        | inr (o, a) ↦ a ∙ was.rows v (omega (arith, m), omega (arith, m, o)) up
      ];
      others = λ v m low. elim (read v m.0) [
        | inl (e, a) ↦ absurd (let here = ap (at_node g.supplies) e in omega (arith, ints, here, row, low))
        | inr (o, a) ↦ a ∙ was.others v (omega (arith, m), omega (arith, m, o)) low
      ];
      rest = λ v m. elim (read v (omega (arith, m))) [
        | inl (e, a) ↦ absurd (omega (arith, e, m))
        | inr (o, a) ↦ a ∙ was.rest v (omega (arith, m))
      ];
    })
  where
    read : (v : ℕ) → 1 ≤ v → ((v ≡ n + 1) × (at_node (set y (n + 1 - 1) x) v ≡ x)) ⊎ ((v ≢ n + 1) × (at_node (set y (n + 1 - 1) x) v ≡ at_node y v))
    read v h = read_node y (n + 1) v x (pos 0) (omega arith, (let count = was.one_per_node in omega (arith, inside, count))) h

pub other_first : (g : Network) (y : List ℤ) (n : ℕ) → AreFirstPrices g y n → at_node g.supplies (n + 1) ≤ℤ pos 0 → AreFirstPrices g y (n + 1)
other_first g y n was other =
    record {
      one_per_node = was.one_per_node;
      rows = λ v m up. elim (cases_eq v (n + 1)) [
        | inl e ↦ absurd (let here = ap (at_node g.supplies) e in omega (arith, ints, here, other, up))
        | inr o ↦ was.rows v (omega (arith, m), omega (arith, m, o)) up
      ];
      others = λ v m low. elim (cases_eq v (n + 1)) [
        | inl e ↦ was.rest v (omega (arith, e))
        | inr o ↦ was.others v (omega (arith, m), omega (arith, m, o)) low
      ];
      rest = λ v m. was.rest v (omega (arith, m));
    }

pub kept_first : (g : Network) (y : List ℤ) (mates : List Mate) {W : Type 0} (tables : Tables W) (reached : List Bool) → IsPseudoflow (first_state g) → g.problem ≡ Asn
    → AreFirstPrices g y (node_count g) → mates ≡ replicate (node_count g) (mate 0 0) → IsIdle g tables → length reached ≡ node_count g
    → IsKept (first_state g) y mates tables reached
kept_first g y mates tables reached flow asn first em idle count =
    record {
      matching = ok;
      shown = record {
        count = first.one_per_node;
        low = λ k arc.
            let row = row_is (first_state g) k ok arc in
            let column = column_is (first_state g) k ok arc in
            let a = row_price (row_of (first_state g) k) row in
            let b = column_price (column_of (first_state g) k) column in
            let cost = cost_near g k arc in
            omega (arith, ints, a, b, cost);
        tight = λ k p. absurd (no_pair g k p);
        columns = λ v column. (let b = column_price v column in omega (arith, ints, b));
        free = λ v column none. column_price v column;
      };
      mated = record {
        count = ap (λ (l : List Mate). length l) em ∙ length-replicate (node_count g) (mate 0 0);
        at_row = λ k p. absurd (no_pair g k p);
        at_column = λ k p. absurd (no_pair g k p);
        matched = λ v n some. absurd (no_mate v n some);
      };
      idle = idle;
      near = λ v n. elim (row_or_column (first_state g) v ok n) [
        | inl row ↦ (let a = row_price v row in let short = cost_short g 1 (omega (arith, n)) in (omega (arith, ints, a, short), omega (arith, ints, a, short)))
        | inr column ↦ (let b = column_price v column in (omega (arith, ints, b), omega (arith, ints, b)))
      ];
      free_rows = λ v row none. row_price v row;
      count = count;
    }
  where
    ok : IsPartialMatching (first_state g)
    ok =
        record {
          flow = flow;
          problem = asn;
          once_in_row = λ k j p q e. absurd (no_pair g k p);
          once_in_column = λ k j p q e. absurd (no_pair g k p);
        }

    row_price : (v : ℕ) → IsRow (first_state g) v → at_node y v ≡ first_price g
    row_price v row = first.rows v row.0 (let one = row.1 in omega (arith, ints, one))

    column_price : (v : ℕ) → IsColumn (first_state g) v → at_node y v ≡ pos 0
    column_price v column = first.others v column.0 (let less = column.1 in omega (arith, ints, less))

    no_mate : (v : ℕ) → IsNode (node_count g) v → 0 < (mate_at mates v).arc → ⊥
    no_mate v n some =
        let none = ap (λ (l : List Mate). (mate_at l v).arc) em
        ∙ ap (λ (m : Mate). m.arc) (get_or-replicate (node_count g) (v - 1) (mate 0 0) (mate 0 0) (omega (arith, n))) in
        omega (arith, none, some)
