-- What is read of a basis at the end: its flow, its prices and its cut.
use Rattle.std.proofs.Common.{◌≡◌, ◌≢◌, ℕ, ◌+◌, ◌-◌, ◌<◌, ◌≤◌, inl, inr, Bool, true, false, eqb, cond, List, length, map, take, drop, get_or, refl, sym, ap}
use Rattle.std.proofs.Common.{◌∙◌, arith, subst, ℤ, pos, ◌+ℤ◌, ◌-ℤ◌, length-drop}
use Rattle.std.specs.Prelude.{◌↔◌, IsTrue, if◌then◌else◌, int_lt}
use Rattle.std.specs.List.{All, range_with_len}
use Rattle.std.proofs.lemmas.Bool.{cases_eq}
use Rattle.std.proofs.lemmas.List.{ext_get_or, get_or_default, get_or-drop, get_or-set_other, get_or-set_same, length-replicate, length-set}
use Rattle.std.proofs.lemmas.List.FromFn.{get_or-map-range_with_len, length-map-range_with_len, take-map-range_with_len}
use Rattle.mcf_flows.specs.declared.problem.Side.TheVariants.{Send}
use Rattle.mcf_flows.specs.Blocking.{Blocks, in_table, supply_in}
use Rattle.mcf_flows.specs.Network.{Network, IsArcNumber, IsNode, node_count}
use Rattle.mcf_flows.specs.WellFormed.{IsUpTo}
use Rattle.mcf_flows.proofs.SameSets.{Blocks-same}
use Rattle.mcf_network.specs.Residual.{arc_at}
use Rattle.mcf_network.specs.NodeSets.{no_nodes, with_node}
use Rattle.mcf_network.specs.States.{Pseudoflow, IsPseudoflow, amount_at, pushed}
use Rattle.mcf_network.proofs.ArcLaws.{amount_count}
use Rattle.mcf_network.proofs.Marks.{marked_new, unmarked}
use Rattle.mcf_network.proofs.StateLaws.{rid}
use Rattle.mcf_tree.specs.SpanningTree.{SpanningTree, depth_of, label_of, size_of}
use Rattle.mcf_basis.specs.declared.offer.ArcOffer.{ArcOffer}
use Rattle.mcf_basis.specs.declared.residuals.Residuals.{Residuals}
use Rattle.mcf_basis.specs.Bases.{IsBasis}
use Rattle.mcf_basis.specs.Laws.{HasNoArtificial}
use Rattle.mcf_basis.specs.Private.Layouts.{Layout, IsLaidOut, amount_in, basis_in, no_offer, no_residuals, amount_in_tree}
use Rattle.mcf_basis.specs.Structures.{TreeStructure, price_at, state_of, price_limit}
use Rattle.mcf_basis.specs.Violations.{HasNoEligible}
use Rattle.mcf_basis.proofs.Cuts.{HasWideTree, cuts_block}
use Rattle.mcf_basis.proofs.Around.{tree_of}
use Rattle.mcf_basis.proofs.PivotKeeps.{same_state}
use Rattle.mcf_basis.proofs.TreePrices.{price_small}
use Rattle.mcf_basis.proofs.Views.{amount_case, carried_added, one_node}
use Rattle.mcf_basis.proofs.Views.AmountCase.{above_node, off_tree}

-- what an arc outside the tree carries, and what the arc of the net above node v does, by their
-- places
abbrev pub outside_by : Network → List ArcOffer → ℕ → ℤ
outside_by g offers k = if eqb (get_or offers (k - 1) no_offer).from (arc_at g k).src then pos 0 else (arc_at g k).cap

abbrev pub inside_by : Network → SpanningTree → List Residuals → ℕ → ℤ
inside_by g tree residuals v =
    if eqb (arc_at g (label_of tree v)).src v then pos (get_or residuals v no_residuals).down else pos (get_or residuals v no_residuals).up

-- ---- the flow

-- an amount after a push
pub amount_pushed : (s s' : Pseudoflow) (k : ℕ) (back : Bool) (x y : ℤ)
    → k - 1 < length s.amounts → y ≡ (if back then amount_at s k -ℤ x else amount_at s k +ℤ x) → s' ≡ pushed s (rid k back) x → amount_at s' k ≡ y
amount_pushed s s' k back x y h e is =
    ap (λ t. amount_at t k) is ∙ (get_or-set_same s.amounts (k - 1) (if back then amount_at s k -ℤ x else amount_at s k +ℤ x) (pos 0) h ∙ sym e)

-- ---- the artificial arcs

pub none_left : (l : Layout) (b : TreeStructure) (t : Bool) → basis_in l ≡ b → IsLaidOut l
    → IsTrue t ↔ ((v : ℕ) → 1 ≤ v → v < length l.artificial → get_or l.artificial v (pos 0) ≡ pos 0)
    → IsTrue t ↔ HasNoArtificial b
none_left l b t e ok test =
    subst (λ b. IsTrue t ↔ HasNoArtificial b) e (
      (λ h v node. carried_added l v _ node refl ∙ test.0 h v node.0 (omega (arith, node, ok.artificial_size))),
      (λ none. test.1 (λ v low high. (let node : IsNode (node_count l.net) v = (low, omega (arith, high, ok.artificial_size)) in sym (carried_added l v _ node refl) ∙ none v node))),
    )

-- ---- the prices

small_prices : (b : TreeStructure) → IsBasis b → All (IsUpTo price_limit) (drop 1 b.prices)
small_prices b ok k d h =
    let inside : 1 + k < length b.prices = omega (arith, length-drop 1 b.prices, h, ok.prices.one_per_node) in
    let place : 1 + k ≡ k + 1 = omega arith in
    subst (IsUpTo price_limit) (sym (get_or-drop 1 b.prices k d ∙ get_or_default b.prices (1 + k) d (pos 0) inside))
    (price_small b ok (1 + k) (omega (arith, inside, ok.prices.one_per_node)))

pub record AreReadPrices (l : Layout) (b : TreeStructure) : Type 0 where
  pub some : 1 ≤ length l.table.prices
  pub count : length (drop 1 l.table.prices) ≡ node_count b.net
  pub value : drop 1 l.table.prices ≡ drop 1 b.prices
  pub small : All (IsUpTo price_limit) (drop 1 b.prices)

pub read_prices : (l : Layout) (b : TreeStructure) → basis_in l ≡ b → IsLaidOut l → AreReadPrices l b
read_prices l b e ok =
    record {
      some = omega (arith, ok.basis.prices.one_per_node);
      count = omega (arith, length-drop 1 l.table.prices, ok.basis.prices.one_per_node, ap (λ x. node_count x.net) e);
      value = ap (λ x. drop 1 x.prices) e;
      small = small_prices b (subst IsBasis e ok.basis);
    }

-- ---- the cut

-- the table marks those of the first i nodes that pass the test, and no other node
pub record IsMarkedTo (n i : ℕ) (test : ℕ → Bool) (table : List Bool) : Type 0 where
  pub room : length table ≡ n
  pub marks : (v : ℕ) → IsNode n v → v ≤ i → in_table table v ≡ test v
  pub rest : (v : ℕ) → IsNode n v → i < v → in_table table v ≡ false

pub marked_start : (n : ℕ) (test : ℕ → Bool) → IsMarkedTo n 0 test (no_nodes n)
marked_start n test = record { room = length-replicate n false; marks = λ v h le. absurd (omega arith); rest = λ v h lt. unmarked n v }

marked_by : (n i : ℕ) (test : ℕ → Bool) (table : List Bool) (wanted : Bool)
    → IsMarkedTo n i test table → i < n → wanted ≡ test (i + 1) → IsMarkedTo n (i + 1) test (cond wanted (with_node table (i + 1)) table)
marked_by n i test table true s h e =
    let room = s.room in
    let here : IsNode (length table) (i + 1) = (omega arith, omega (arith, room, h)) in
    record {
      room = simp length-set room;
      marks = λ v node le. elim (cases_eq v (i + 1)) [
        | inl q ↦ ap (in_table (with_node table (i + 1))) q ∙ (marked_new table (i + 1) here ∙ (e ∙ ap test (sym q)))
        | inr ne ↦ get_or-set_other table (i + 1 - 1) (v - 1) true false (λ q. ne (omega (arith, q, node))) ∙ s.marks v node (omega (arith, le, ne))
      ];
      rest = λ v node lt. get_or-set_other table (i + 1 - 1) (v - 1) true false (λ q. omega (arith, q, node, lt)) ∙ s.rest v node (omega (arith, lt));
    }
marked_by n i test table false s h e =
    record {
      room = s.room;
      marks = λ v node le. elim (cases_eq v (i + 1)) [
        | inl q ↦ s.rest v node (omega (arith, q)) ∙ (e ∙ ap test (sym q))
        | inr ne ↦ s.marks v node (omega (arith, le, ne))
      ];
      rest = λ v node lt. s.rest v node (omega (arith, lt));
    }

pub marked_next : (n i v : ℕ) (test : ℕ → Bool) (table table' : List Bool) (wanted : Bool)
    → IsMarkedTo n i test table → i < n → v ≡ i + 1 → wanted ≡ test v → table' ≡ cond wanted (with_node table v) table
    → IsMarkedTo n (i + 1) test table'
marked_next n i v test table table' wanted s h q e is =
    subst (IsMarkedTo n (i + 1) test) (sym (is ∙ ap (λ u. cond wanted (with_node table u) table) q)) (marked_by n i test table wanted s h (e ∙ ap test q))

-- such a table, of all nodes, blocks where artificial arcs carry something at a last basis
pub cut_blocks : (l : Layout) (b : TreeStructure) (table : List Bool) → basis_in l ≡ b → IsLaidOut l → HasNoEligible b
    → supply_in b.net.supplies (λ v. true) ≡ pos 0 → ¬ HasNoArtificial b
    → ((v : ℕ) → IsNode (node_count b.net) v → in_table table v ≡ int_lt (pos 0) (price_at b v)) → Blocks b.net (in_table table) Send
cut_blocks l b table e ok none balanced uneven marks =
    let basis : IsBasis b = subst IsBasis e ok.basis in
    let wide : HasWideTree b = subst HasWideTree e ok.wide in
    Blocks-same b.net (λ v. int_lt (pos 0) (price_at b v)) (in_table table) basis.of_net.ends (λ v h. sym (marks v h)) Send
    (cuts_block b basis none wide balanced uneven)

-- ---- the flow of a basis, as it is written

-- what the writing of the tree asks for
pub record CanBeWritten (l : Layout) : Type 0 where
  pub size : size_of l.tree ≡ node_count l.net + 1
  pub low : (v : ℕ) → IsNode (node_count l.net) v → 1 ≤ label_of l.tree v
  pub apart : (u v : ℕ) → IsNode (node_count l.net) u → IsNode (node_count l.net) v → label_of l.tree u ≡ label_of l.tree v → u ≡ v

pub can_be_written : (l : Layout) → IsLaidOut l → CanBeWritten l
can_be_written l ok =
    record {
      size = ok.basis.size;
      low = λ v h. (ok.basis.tree_arcs v h).label.0;
      apart = one_node l (depth_of l.tree) (tree_of (basis_in l) ok.basis) ok.basis.size;
    }

-- the amounts of the arcs above the first i nodes are written, and those of no arc outside the tree
pub record IsTreeWritten (g : Network) (tree : SpanningTree) (residuals : List Residuals) (first now : Pseudoflow) (i : ℕ) : Type 0 where
  pub net : now.net ≡ g
  pub flow : IsPseudoflow now
  pub inside : (v : ℕ) → IsNode (node_count g) v → v ≤ i → label_of tree v ≤ length g.arcs
      → amount_at now (label_of tree v) ≡ inside_by g tree residuals v
  pub outside : (k : ℕ) → IsArcNumber g k → ((v : ℕ) → IsNode (node_count g) v → label_of tree v ≢ k) → amount_at now k ≡ amount_at first k

pub tree_next : (g : Network) (tree : SpanningTree) (residuals : List Residuals) (first now next : Pseudoflow) (i v k u : ℕ)
    → ((v : ℕ) → IsNode (node_count g) v → 1 ≤ label_of tree v)
    → ((u v : ℕ) → IsNode (node_count g) u → IsNode (node_count g) v → label_of tree u ≡ label_of tree v → u ≡ v)
    → IsNode (node_count g) v → v ≡ i + 1 → k ≡ label_of tree v → u ≡ v → IsTreeWritten g tree residuals first now i
    → next.net ≡ g → IsPseudoflow next
    → (k ≤ length g.arcs → amount_at next k ≡ (if eqb (arc_at g k).src v then pos (get_or residuals u no_residuals).down else pos (get_or residuals u no_residuals).up))
    → ((j : ℕ) → IsArcNumber g j → j ≢ k → amount_at next j ≡ amount_at now j) → IsTreeWritten g tree residuals first next (i + 1)
tree_next g tree residuals first now next i v k u low apart node at label room before net flow value others =
    record {
      net = net;
      flow = flow;
      inside = λ w h le own. elim (cases_eq w v) [
        | inl q ↦ subst (λ w. label_of tree w ≤ length g.arcs → amount_at next (label_of tree w) ≡ inside_by g tree residuals w) (sym q)
            (rw (label, room) at value) own
        | inr ne ↦ others (label_of tree w) (low w h, own) (λ same. ne (apart w v h node (same ∙ label)))
            ∙ before.inside w h (omega (arith, ne, le, at)) own
      ];
      outside = λ j h none. others j h (λ q. none v node (sym label ∙ sym q)) ∙ before.outside j h none;
    }

-- the amounts of the arcs, those of the tree written over those outside it
pub record IsWritten (l : Layout) (first last : Pseudoflow) : Type 0 where
  pub flow : IsPseudoflow last
  pub net : last.net ≡ l.net
  pub outside : (k : ℕ) → IsArcNumber l.net k → amount_at first k ≡ outside_by l.net l.offers k
  pub inside : (v : ℕ) → IsNode (node_count l.net) v → label_of l.tree v ≤ length l.net.arcs
      → amount_at last (label_of l.tree v) ≡ inside_by l.net l.tree l.residuals v
  pub others : (k : ℕ) → IsArcNumber l.net k
      → ((v : ℕ) → IsNode (node_count l.net) v → label_of l.tree v ≢ k) → amount_at last k ≡ amount_at first k

module _ (l : Layout) (first last : Pseudoflow) (ok : IsLaidOut l) (w : IsWritten l first last) where
  written_at : (k : ℕ) → IsArcNumber l.net k → amount_at last k ≡ amount_in l k
  written_at k h =
      elim (amount_case l (depth_of l.tree) (tree_of (basis_in l) ok.basis) ok.basis.size k h) [
        | above_node v node e is ↦ subst (λ j. amount_at last j ≡ amount_in_tree l j v) e (w.inside v node (omega (arith, e, h))) ∙ sym is
        | off_tree off is ↦ w.others k h off ∙ (w.outside k h ∙ sym is)
      ]

  written_amounts : last.amounts ≡ map (amount_in l) (range_with_len 1 (length l.net.arcs))
  written_amounts =
      let count = length-map-range_with_len (amount_in l) 1 (length l.net.arcs) in
      let own = amount_count last w.flow in
      let arcs : length last.net.arcs ≡ length l.net.arcs = ap (λ (g : Network). length g.arcs) w.net in
      ext_get_or (pos 0) last.amounts (map (amount_in l) (range_with_len 1 (length l.net.arcs))) (omega (arith, count, own, arcs))
      (λ i h. (let inside : i < length l.net.arcs = omega (arith, own, arcs, h) in
      let back : i + 1 - 1 ≡ i = omega arith in
      sym (ap (λ j. get_or last.amounts j (pos 0)) back)
      ∙ (written_at (i + 1) (omega arith, omega (arith, inside))
      ∙ sym (get_or-map-range_with_len (amount_in l) 1 (length l.net.arcs) i (i + 1) (pos 0) inside (omega arith)))))

pub flow_written : (l : Layout) (b : TreeStructure) (first last : Pseudoflow)
    → basis_in l ≡ b → IsLaidOut l → IsWritten l first last → last ≡ state_of b
flow_written l b first last e ok w =
    subst (λ b. last ≡ state_of b) e
    (same_state last l.net (take (length l.net.arcs) (map (amount_in l) (range_with_len 1 (length l.net.arcs + node_count l.net)))) w.net
    (written_amounts l first last ok w
    ∙ sym (take-map-range_with_len (amount_in l) 1 (length l.net.arcs + node_count l.net) (length l.net.arcs) (omega arith))))
