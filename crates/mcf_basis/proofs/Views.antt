-- What is read of a basis that is stored.
use Rattle.std.proofs.Common.{◌≡◌, ◌≢◌, ℕ, ◌+◌, ◌-◌, ◌*◌, ◌<◌, ◌≤◌, inl, inr, eqb, length, get_or, ap, sym, ◌∙◌, arith, subst, pos, zero, suc, Bool, true}
use Rattle.std.proofs.Common.{false, refl, Some, None}
use Rattle.std.specs.List.{find, range_with_len}
use Rattle.std.proofs.lemmas.Bool.{cond-true, cond-false, eq-eqb, eqb-true, ne_eqb, le-leb, lt-leb, cases_Bool, true≢false}
use Rattle.std.proofs.lemmas.Int.{ints}
use Rattle.std.proofs.lemmas.List.FromFn.{get_or-map-range_with_len}
use Rattle.mcf_flows.specs.Network.{IsArcNumber, IsNode, node_count}
use Rattle.mcf_flows.specs.WellFormed.{IsUpTo}
use Rattle.mcf_network.specs.Nets.{greatest_cost}
use Rattle.mcf_tree.specs.SpanningTree.{label_of, size_of}
use Rattle.mcf_basis.specs.Bases.{IsBasis}
use Rattle.mcf_basis.specs.Private.Gaps.{IsSpread}
use Rattle.mcf_basis.specs.Private.Layouts.{Layout, IsLaidOut, amount_by, amount_in, amount_in_tree, amount_outside, basis_in, node_below}
use Rattle.mcf_basis.specs.Ranks.{price_reach}
use Rattle.mcf_basis.specs.Structures.{TreeStructure, IsInTree, carried, price_at, price_limit}
use Rattle.mcf_basis.proofs.Around.{arcs_of}
use Rattle.mcf_basis.proofs.Pushes.{IsTreeOf, cases_found}
use Rattle.mcf_basis.proofs.Spreads.{near_spread}
use Rattle.mcf_basis.proofs.StrongPivot.{same_node}
use Rattle.mcf_basis.proofs.TreePrices.{near_price, price_reached, price_small}

module _ (p : ℕ → Bool) where
  pub found_nowhere : (from n : ℕ) → ((j : ℕ) → from ≤ j → j < from + n → p j ≡ false) → find p (range_with_len from n) ≡ None
  found_nowhere from zero each = refl
  found_nowhere from (suc n) each =
      rw (each from (omega arith) (omega arith)) (found_nowhere (from + 1) n (λ j l h. each j (omega arith) (omega arith)))

  -- the only one that does
  pub found_only : (from n v : ℕ) → from ≤ v → v < from + n → p v ≡ true → ((j : ℕ) → from ≤ j → j < from + n → p j ≡ true → j ≡ v)
      → find p (range_with_len from n) ≡ Some v
  found_only from zero v low high passes only = absurd (omega arith)
  found_only from (suc n) v low high passes only =
      elim (cases_Bool (p from)) [
        | inl t ↦ (let e : from ≡ v = only from (omega arith) (omega arith) t in rw t (ap Some e))
        | inr f ↦ (let ne : from ≢ v = (λ q. true≢false (sym passes ∙ (ap p (sym q) ∙ f))) in
            rw f (found_only (from + 1) n v (omega arith) (omega arith) passes (λ j l h t. only j (omega arith) (omega arith) t)))
      ]

pub view_basis : (l : Layout) (b : TreeStructure) → basis_in l ≡ b → IsLaidOut l → IsBasis b
view_basis l b e ok = subst IsBasis e ok.basis

pub record IsReadPrice (l : Layout) (b : TreeStructure) (v : ℕ) : Type 0 where
  pub in_range : v < length l.table.prices
  pub value : get_or l.table.prices v (pos 0) ≡ price_at b v
  pub small : IsUpTo price_limit (get_or l.table.prices v (pos 0))

pub read_price : (l : Layout) (b : TreeStructure) (v : ℕ) → basis_in l ≡ b → IsLaidOut l → v ≤ node_count b.net → IsReadPrice l b v
read_price l b v e ok h =
    let nodes = ap (λ x. node_count x.net) e in
    record {
      in_range = omega (arith, h, nodes, ok.basis.prices.one_per_node);
      value = ap (λ x. price_at x v) e;
      small = price_small (basis_in l) ok.basis v (omega (arith, h, nodes));
    }

-- each price has room
pub price_fits : (l : Layout) → IsLaidOut l → (v : ℕ) → v ≤ node_count l.net → IsUpTo l.table.limit (price_at (basis_in l) v)
price_fits l ok v h =
    let p : IsUpTo (price_reach l.net) (price_at (basis_in l) v) = price_reached (basis_in l) ok.basis v h in
    (omega (arith, ints, p, ok.fits), omega (arith, ints, p, ok.fits))

-- each price but that of the root can be stored
pub price_spread : (l : Layout) → IsLaidOut l → (v : ℕ) → 0 < v → v ≤ node_count l.net → IsSpread l.table.gap (price_at (basis_in l) v)
price_spread l ok v up h = near_spread l.net l.table.gap (node_count l.net * greatest_cost l.net.arcs) (price_at (basis_in l) v) ok.gap
    (λ short. omega (arith, short)) (near_price (basis_in l) ok.basis v up h)

-- ---- what arcs carry, by how it is stored

-- an arc of the net by the node below it, if there is one, otherwise by its offer
by_node : (l : Layout) (j : ℕ) → IsArcNumber l.net j → amount_in l j ≡ amount_by l j (node_below l j)
by_node l j h = cond-true _ _ _ (le-leb j (length l.net.arcs) h.1)

pub amount_none : (l : Layout) (j : ℕ) → IsArcNumber l.net j → ((v : ℕ) → IsNode (node_count l.net) v → label_of l.tree v ≢ j)
    → amount_in l j ≡ amount_outside l j
amount_none l j h off =
    by_node l j h ∙ ap (amount_by l j) (found_nowhere (λ v. eqb (label_of l.tree v) j) 1 (node_count l.net)
    (λ v low high. ne_eqb (label_of l.tree v) j (off v (low, omega (arith, high)))))

-- an artificial arc by its node
pub amount_added : (l : Layout) (v label : ℕ) → IsNode (node_count l.net) v → label ≡ length l.net.arcs + v
    → amount_in l label ≡ get_or l.artificial v (pos 0)
amount_added l v label h e =
    let back : label - length l.net.arcs ≡ v = omega (arith, e) in
    cond-false _ _ _ (lt-leb label (length l.net.arcs) (omega (arith, e, h))) ∙ ap (λ i. get_or l.artificial i (pos 0)) back

-- an arc of the net stands above a node of the tree, or it doesn't
pub data AmountCase (l : Layout) (j : ℕ) : Type 0 where
  above_node : (v : ℕ) → IsNode (node_count l.net) v → label_of l.tree v ≡ j → amount_in l j ≡ amount_in_tree l j v → AmountCase l j
  off_tree : ((v : ℕ) → IsNode (node_count l.net) v → label_of l.tree v ≢ j) → amount_in l j ≡ amount_outside l j → AmountCase l j

module _ (l : Layout) (d : ℕ → ℕ) (tree : IsTreeOf (arcs_of l.net) l.tree.parents l.tree.labels d) (size : size_of l.tree ≡ node_count l.net + 1) where
  -- the arcs of two nodes are apart
  pub one_node : (u v : ℕ) → IsNode (node_count l.net) u → IsNode (node_count l.net) v → label_of l.tree u ≡ label_of l.tree v → u ≡ v
  one_node u v hu hv = same_node tree u v hu.0 (omega (arith, size, hu)) hv.0 (omega (arith, size, hv))

  pub amount_found : (j v : ℕ) → IsArcNumber l.net j → IsNode (node_count l.net) v → label_of l.tree v ≡ j → amount_in l j ≡ amount_in_tree l j v
  amount_found j v h node e =
      by_node l j h ∙ ap (amount_by l j) (found_only (λ u. eqb (label_of l.tree u) j) 1 (node_count l.net) v node.0 (omega (arith, node))
      (eq-eqb (label_of l.tree v) j e) (λ u low high t. one_node u v (low, omega (arith, high)) node (eqb-true (label_of l.tree u) j t ∙ sym e)))

  pub amount_case : (j : ℕ) → IsArcNumber l.net j → AmountCase l j
  amount_case j h =
      elim (cases_found (λ i. label_of l.tree (i + 1)) (node_count l.net) j) [
        | inl f ↦ (let lt = f.short in
            let node : IsNode (node_count l.net) (f.at + 1) = (omega arith, omega (arith, lt)) in
            above_node (f.at + 1) node f.is (amount_found j (f.at + 1) h node f.is))
        | inr none ↦ (let off : (v : ℕ) → IsNode (node_count l.net) v → label_of l.tree v ≢ j =
            (λ v node e. (let back : v - 1 + 1 ≡ v = omega (arith, node) in none (v - 1) (omega (arith, node)) (ap (label_of l.tree) back ∙ e))) in
            off_tree off (amount_none l j h off))
      ]

-- the arc of a label
pub carried_in : (l : Layout) (label : ℕ) → 1 ≤ label → label ≤ length l.net.arcs + node_count l.net → carried (basis_in l) label ≡ amount_in l label
carried_in l label low high =
    get_or-map-range_with_len (amount_in l) 1 (length l.net.arcs + node_count l.net) (label - 1) label (pos 0) (omega arith) (omega arith)

pub carried_outside : (l : Layout) (k : ℕ) → IsArcNumber l.net k → ¬ IsInTree (basis_in l) k → carried (basis_in l) k ≡ amount_outside l k
carried_outside l k h out =
    carried_in l k h.0 (omega (arith, h)) ∙ amount_none l k h (λ v node e. out (record { node = v; is_node = node; labelled = e }))

pub carried_added : (l : Layout) (v label : ℕ) → IsNode (node_count l.net) v → label ≡ length l.net.arcs + v
    → carried (basis_in l) label ≡ get_or l.artificial v (pos 0)
carried_added l v label h e = carried_in l label (omega (arith, h, e)) (omega (arith, h, e)) ∙ amount_added l v label h e
