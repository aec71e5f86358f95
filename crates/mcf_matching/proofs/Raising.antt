-- Loops over the list of settled nodes: prices are raised, and marks are taken back.
use Rattle.std.proofs.Common.{rules, ◌≡◌, ◌≢◌, ℕ, ◌+◌, ◌-◌, ◌<◌, ◌≤◌, Bool, true, false, List, set, length, get_or, ℤ, pos, ◌+ℤ◌, ◌-ℤ◌, refl, sym, ◌∙◌, ap, subst}
use Rattle.std.proofs.Common.{arith, ◌⊎◌, inl, inr, length-set}
use Rattle.std.specs.List.{All, Contains}
use Rattle.std.proofs.lemmas.Bool.{cases_eq, true≢false}
use Rattle.std.proofs.lemmas.Int.{ints, by_lt_z}
use Rattle.std.proofs.lemmas.List.{get_or_default, get_or_past, length-replicate}
use Rattle.mcf_flows.specs.Blocking.{in_table}
use Rattle.mcf_flows.specs.Network.{IsNode, at_node, node_count}
use Rattle.mcf_network.specs.NodeSets.{no_nodes, with_node}
use Rattle.mcf_network.specs.States.{Pseudoflow}
use Rattle.mcf_network.proofs.Marks.{marked_new, marked_only, marked_still, unmarked, read_node}
use Rattle.mcf_matching.specs.Private.Forests.{IsListing, IsOrder}
use Rattle.mcf_matching.specs.Private.Searches.{AreRaised, HasEntries, Search, Settled, dist_at}
use Rattle.mcf_matching.specs.Private.Reaches.{CanRise}
use Rattle.mcf_matching.proofs.Settling.{not_true}

-- a node stands at place i or later
abbrev pub StandsFrom : List ℕ → ℕ → ℕ → Type 0
StandsFrom order i v = (k : ℕ) × (i ≤ k) × (k < length order) × (get_or order k v ≡ v)

stands_past : (order : List ℕ) (i v : ℕ) → length order ≤ i → ¬ StandsFrom order i v
stands_past order i v l (k, low, high, e) = omega (arith, l, low, high)

-- a node that stands at place i or later, and isn't the one at place i, stands later
stands_later : (order : List ℕ) (i v w : ℕ) → w ≡ get_or order i w → i < length order → v ≢ w → StandsFrom order i v → StandsFrom order (i + 1) v
stands_later order i v w at l n (k, low, high, e) =
    elim (cases_eq k i) [
      | inl same ↦ absurd (n (sym e ∙ ap (λ j. get_or order j v) same ∙ get_or_default order i v w l ∙ sym at))
      | inr m ↦ (k, omega (arith, low, m), high, e)
    ]

pub listing_of : (s : Pseudoflow) (q : Search) (source nodes : ℕ) (order : List ℕ) → node_count s.net ≡ nodes → IsOrder s q source order
    → IsListing nodes q order
listing_of s q source nodes order e ok = subst (λ n. IsListing n q order) e (search rules)

-- a price as it is read
pub price_read : (y : List ℤ) (v i : ℕ) (x : ℤ) → x ≡ get_or y i x → i ≡ v - 1 → v - 1 < length y → x ≡ at_node y v
price_read y v i x at e inside =
    at ∙ get_or_default y i x (pos 0) (omega (arith, e, inside)) ∙ ap (λ j. get_or y j (pos 0)) e

-- a distance as it is read
pub dist_read : (q : Search) (v i : ℕ) (x : ℤ) → x ≡ get_or q.dist i x → i ≡ v - 1 → v - 1 < length q.dist → x ≡ dist_at q v
dist_read q v i x at e inside = price_read q.dist v i x at e inside

-- the prices of the nodes before place i are raised, and the others are as they were
pub record AreRaisedUpTo (q : Search) (x : ℤ) (y z : List ℤ) (order : List ℕ) (i : ℕ) : Type 0 where
  pub count : length z ≡ length y
  pub settled : (v : ℕ) → IsNode (length y) v → Settled q v → ¬ StandsFrom order i v → at_node z v ≡ at_node y v +ℤ (x -ℤ dist_at q v)
  pub rest : (v : ℕ) → IsNode (length y) v → StandsFrom order i v → at_node z v ≡ at_node y v
  pub others : (v : ℕ) → IsNode (length y) v → ¬ Settled q v → at_node z v ≡ at_node y v

-- the node at place i, whose price is to rise
pub record IsRising (q : Search) (x : ℤ) (y z : List ℤ) (room w : ℕ) (dist : ℤ) : Type 0 where
  pub node : IsNode (length z) w
  pub is : dist ≡ dist_at q w
  pub can : CanRise room (at_node z w) (x -ℤ dist)

pub rising : {q : Search} {x : ℤ} {y z : List ℤ} {order : List ℕ} {i room : ℕ} (w j : ℕ) (dist : ℤ) → HasEntries (length y) q → IsListing (length y) q order
    → AreRaisedUpTo q x y z order i → ((v : ℕ) → IsNode (length y) v → Settled q v → CanRise room (at_node y v) (x -ℤ dist_at q v))
    → i < length order → w ≡ get_or order i w → dist ≡ get_or q.dist j dist → j ≡ w - 1 → IsRising q x y z room w dist
rising {q} {x} {y} {z} {order} {i} {room} w j dist entries ok so can l at read place =
    let node = subst (λ v. IsNode (length y) v) (sym at) (ok.each i w l) in
    let count = so.count in
    let entry = entries.dist_count in
    let is = dist_read q w j dist read place (omega (arith, node, entry)) in
    let same = so.rest w node (i, omega arith, l, sym at) in
    record {
      node = (omega (arith, node), omega (arith, node, count));
      is = is;
      can = subst (λ d. CanRise room (at_node z w) (x -ℤ d)) (sym is) (subst (λ p. CanRise room p (x -ℤ dist_at q w)) (sym same) (can w node (ok.members w (i, l, sym at))));
    }

pub none_raised : (q : Search) (x : ℤ) (y : List ℤ) (order : List ℕ) → IsListing (length y) q order → AreRaisedUpTo q x y y order 0
none_raised q x y order ok =
    record {
      count = refl;
      settled = λ v n h none. absurd (let has = ok.listed v n h in none (has.0, omega arith, has.1, has.2));
      rest = λ v n h. refl;
      others = λ v n h. refl;
    }

pub one_raised : (q : Search) (x : ℤ) (y z : List ℤ) (order : List ℕ) (i w g : ℕ) (p : ℤ) → IsListing (length y) q order → AreRaisedUpTo q x y z order i
    → i < length order → w ≡ get_or order i w → g ≡ w - 1 → p ≡ at_node z w +ℤ (x -ℤ dist_at q w) → AreRaisedUpTo q x y (set z g p) order (i + 1)
one_raised q x y z order i w g p ok so l at eg is =
    subst (λ j. AreRaisedUpTo q x y (set z j p) order (i + 1)) (sym eg) now
  where
    node : IsNode (length y) w
    node = subst (λ v. IsNode (length y) v) (sym at) (ok.each i w l)

    here : StandsFrom order i w
    here = (i, omega arith, l, sym at)

    member : Settled q w
    member = ok.members w (i, l, sym at)

    read : (v : ℕ) → 1 ≤ v → ((v ≡ w) × (at_node (set z (w - 1) p) v ≡ p)) ⊎ ((v ≢ w) × (at_node (set z (w - 1) p) v ≡ at_node z v))
    read v h = read_node z w v p (pos 0) (node.0, (let n = node in let c = so.count in omega (arith, n, c))) h

    now : AreRaisedUpTo q x y (set z (w - 1) p) order (i + 1)
    now =
        record {
          count = length-set z (w - 1) p ∙ so.count;
          settled = λ v n h none. elim (read v n.0) [
            | inl (e, a) ↦ a ∙ is ∙ ap (λ u. u +ℤ (x -ℤ dist_at q w)) (so.rest w node here) ∙ ap (λ u. at_node y u +ℤ (x -ℤ dist_at q u)) (sym e)
            | inr (o, a) ↦ a ∙ so.settled v n h (λ s. none (stands_later order i v w at l o s))
          ];
          rest = λ v n s. elim (read v n.0) [
            | inl (e, a) ↦ absurd (twice v s e)
            | inr (o, a) ↦ a ∙ so.rest v n (s.0, (let low = s.1 in omega (arith, low)), s.2, s.3)
          ];
          others = λ v n h. elim (read v n.0) [
            | inl (e, a) ↦ absurd (h (subst (λ u. Settled q u) (sym e) member))
            | inr (o, a) ↦ a ∙ so.others v n h
          ];
        }
      where
        twice : (v : ℕ) → StandsFrom order (i + 1) v → v ≡ w → ⊥
        twice v (k, low, high, e) same =
            ok.once i k v (omega (arith, low)) high (get_or_default order i v w l ∙ sym at ∙ sym same ∙ sym e)

pub all_raised : (q : Search) (x : ℤ) (y z : List ℤ) (order : List ℕ) (i : ℕ) → AreRaisedUpTo q x y z order i → length order ≤ i → (s : Pseudoflow)
    → node_count s.net ≡ length y → AreRaised s q x y z
all_raised q x y z order i so l s n =
    record {
      count = so.count;
      settled = λ v k m. so.settled v (k.0, omega (arith, k, n)) m (stands_past order i v l);
      others = λ v k m. so.others v (k.0, omega (arith, k, n)) m;
    }

-- ---- marks taken back

-- each marked node stands at place i or later
pub record AreUnmarkedUpTo (nodes : ℕ) (marks : List Bool) (order : List ℕ) (i : ℕ) : Type 0 where
  pub count : length marks ≡ nodes
  pub later : (v : ℕ) → IsNode nodes v → in_table marks v ≡ true → StandsFrom order i v

pub none_unmarked : (marks : List Bool) (order : List ℕ) → ((v : ℕ) → IsNode (length marks) v → in_table marks v ≡ true → Contains order v)
    → AreUnmarkedUpTo (length marks) marks order 0
none_unmarked marks order listed =
    record {
      count = refl;
      later = λ v n h. (let has = listed v n h in (has.0, omega arith, has.1, has.2));
    }

pub one_unmarked : (nodes : ℕ) (marks : List Bool) (order : List ℕ) (i w g : ℕ) → All (IsNode nodes) order → AreUnmarkedUpTo nodes marks order i
    → i < length order → w ≡ get_or order i w → g ≡ w - 1 → AreUnmarkedUpTo nodes (set marks g false) order (i + 1)
one_unmarked nodes marks order i w g each so l at eg =
    subst (λ j. AreUnmarkedUpTo nodes (set marks j false) order (i + 1)) (sym eg) (record {
      count = length-set marks (w - 1) false ∙ so.count;
      later = λ v n h. elim (read_node marks w v false false (let c = so.count in let m = node in (m.0, omega (arith, m, c))) n.0) [
        | inl (e, a) ↦ absurd (true≢false (sym h ∙ a))
        | inr (o, a) ↦ stands_later order i v w at l o (so.later v n (sym a ∙ h))
      ];
    })
  where
    node : IsNode nodes w
    node = subst (λ v. IsNode nodes v) (sym at) (each i w l)

pub all_unmarked : (nodes : ℕ) (marks : List Bool) (order : List ℕ) (i : ℕ) → AreUnmarkedUpTo nodes marks order i → length order ≤ i → (v : ℕ)
    → in_table marks v ≡ false
all_unmarked nodes marks order i so l v =
    by_lt_z (pos (v - 1)) (pos nodes) (λ inside.
    let same : v - 1 ≡ v - 1 + 1 - 1 = omega arith in
    ap (λ j. get_or marks j false) same ∙ not_true (in_table marks (v - 1 + 1))
    (λ h. stands_past order i (v - 1 + 1) l (so.later (v - 1 + 1) (omega arith, omega (arith, ints, inside)) h)))
    (λ past. get_or_past marks (v - 1) false (let c = so.count in omega (arith, ints, past, c)))

-- ---- a set filled from a list

pub record IsFilledUpTo (nodes : ℕ) (set : List Bool) (list : List ℕ) (i : ℕ) : Type 0 where
  pub count : length set ≡ nodes
  pub some : (v : ℕ) → IsNode nodes v → in_table set v ≡ true → Contains list v
  pub all : (v k : ℕ) → k < i → k < length list → get_or list k v ≡ v → in_table set v ≡ true

pub none_filled : (nodes : ℕ) (set : List Bool) (list : List ℕ) → set ≡ no_nodes nodes → IsFilledUpTo nodes set list 0
none_filled nodes set list e =
    record {
      count = ap (λ t. length t) e ∙ length-replicate nodes false;
      some = λ v n h. absurd (true≢false (sym h ∙ ap (λ t. in_table t v) e ∙ unmarked nodes v));
      all = λ v k l m h. absurd (omega (arith, l));
    }

pub one_filled : (nodes : ℕ) (set : List Bool) (list : List ℕ) (i w : ℕ) → All (IsNode nodes) list → IsFilledUpTo nodes set list i → i < length list
    → w ≡ get_or list i w → IsFilledUpTo nodes (with_node set w) list (i + 1)
one_filled nodes set list i w each so l at =
    record {
      count = length-set set (w - 1) true ∙ so.count;
      some = λ v n h. elim (marked_only set w v node (n.0, omega (arith, n, count)) h) [
        | inl e ↦ (i, l, get_or_default list i v w l ∙ sym at ∙ sym e)
        | inr was ↦ so.some v n was
      ];
      all = λ v k less inside e. elim (cases_eq k i) [
        | inl same ↦ subst (λ u. in_table (with_node set w) u ≡ true) (at ∙ get_or_default list i w v l ∙ ap (λ j. get_or list j v) (sym same) ∙ e)
            (marked_new set w node)
        | inr m ↦ marked_still set w v node (so.all v k (omega (arith, less, m)) inside e)
      ];
    }
  where
    count : length set ≡ nodes
    count = so.count

    in_list : IsNode nodes w
    in_list = subst (λ v. IsNode nodes v) (sym at) (each i w l)

    node : IsNode (length set) w
    node = (let n = in_list in (n.0, omega (arith, n, count)))

pub all_filled : (nodes : ℕ) (set : List Bool) (list : List ℕ) (i : ℕ) → IsFilledUpTo nodes set list i → length list ≤ i → (v : ℕ) → IsNode nodes v
    → (in_table set v ≡ true → Contains list v) × (Contains list v → in_table set v ≡ true)
all_filled nodes set list i so l v n =
    (so.some v n, λ (k, inside, e). so.all v k (omega (arith, inside, l)) inside e)
