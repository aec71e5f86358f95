-- The flow of a basis is a tree solution: from the leaves of the tree on, a circulation that is 0
-- at all arcs whose flow is at a bound is 0.
use Rattle.std.proofs.Common.{◌≡◌, ◌≢◌, ℕ, zero, suc, ◌+◌, ◌-◌, ◌<◌, ◌≤◌, ◌⊎◌, inl, inr, eqb, List, [], ◌∷◌, length, get_or, sym, ap, ◌∙◌, arith, subst, ℤ, pos}
use Rattle.std.proofs.Common.{◌-ℤ◌}
use Rattle.std.proofs.lemmas.Int.{ints}
use Rattle.std.proofs.lemmas.Bool.{cases_eq}
use Rattle.std.proofs.lemmas.Bool.Decides.{nat_tests}
use Rattle.mcf_flows.specs.declared.arc.Arc.{Arc}
use Rattle.mcf_flows.specs.Network.{IsArcNumber, IsNode, flow_sum, node_count, when}
use Rattle.mcf_network.specs.Nets.{IsNetArc}
use Rattle.mcf_network.specs.Residual.{no_arc, arc_at}
use Rattle.mcf_network.proofs.ArcLaws.{net_arc_at}
use Rattle.mcf_network.proofs.StateLaws.{when-other, when-zero}
use Rattle.mcf_tree.proofs.Depths.{depth-lt}
use Rattle.mcf_tree.specs.SpanningTree.{depth_of, label_of, parent_of, size_of}
use Rattle.mcf_basis.specs.Bases.{IsBasis}
use Rattle.mcf_basis.specs.Laws.{BasesAreTreeSolutions}
use Rattle.mcf_basis.specs.Structures.{TreeStructure, IsInTree, carried, state_of}
use Rattle.mcf_basis.specs.Structures.Joins.{out_of, into}
use Rattle.mcf_network.specs.TreeSolutions.{IsFreeCirculation, at_arc}
use Rattle.mcf_basis.proofs.Labels.{own_carried, zero_terms, cases_in_tree, own_arc, own_label}
use Rattle.mcf_basis.proofs.StrongPivot.{parent_apart}
use Rattle.mcf_basis.proofs.TreePrices.{in_tree}

-- a sum over the arcs of which one term alone isn't 0
pub single_term : (t : Arc → ℤ → ℤ) (arcs : List Arc) (flow : List ℤ) (at : ℕ) → length flow ≡ length arcs → at < length arcs
    → ((i : ℕ) → i < length arcs → i ≢ at → t (get_or arcs i no_arc) (get_or flow i (pos 0)) ≡ pos 0) →
    flow_sum t arcs flow ≡ t (get_or arcs at no_arc) (get_or flow at (pos 0))
single_term t [] flow at e h others = absurd (omega arith)
single_term t (a ∷ arcs) [] at e h others = absurd (omega arith)
single_term t (a ∷ arcs) (f ∷ flow) zero e h others =
    omega (arith, ints, zero_terms t arcs flow (λ i l m. others (suc i) (omega arith) (λ q. omega arith)))
single_term t (a ∷ arcs) (f ∷ flow) (suc at) e h others =
    let rest : flow_sum t arcs flow ≡ t (get_or arcs at no_arc) (get_or flow at (pos 0)) =
    single_term t arcs flow at (omega arith) (omega arith) (λ i l ne. others (suc i) (omega arith) (λ q. ne (omega arith))) in
    omega (arith, ints, others 0 (omega arith) (λ q. omega arith), rest)

nothing_at : (v : ℕ) (a : Arc) (f : ℤ) → f ≡ pos 0 → (when (eqb a.src v) f ≡ pos 0) × (when (eqb a.dst v) f ≡ pos 0)
nothing_at v a f e = (ap (when (eqb a.src v)) e ∙ when-zero (eqb a.src v), ap (when (eqb a.dst v)) e ∙ when-zero (eqb a.dst v))

elsewhere : (v : ℕ) (a : Arc) (f : ℤ) → a.src ≢ v → a.dst ≢ v → (when (eqb a.src v) f ≡ pos 0) × (when (eqb a.dst v) f ≡ pos 0)
elsewhere v a f s d = (when-other a.src v f (λ q. s (sym q)), when-other a.dst v f (λ q. d (sym q)))

-- an arc between v and another node alone makes the net at v: it carries 0 where that is 0
alone : (v p : ℕ) (a : Arc) (f : ℤ) → v ≢ p → ((a.src ≡ v) × (a.dst ≡ p)) ⊎ ((a.src ≡ p) × (a.dst ≡ v)) → when (eqb a.src v) f -ℤ when (eqb a.dst v) f ≡ pos 0
    → f ≡ pos 0
alone v p a f ne ends e = grind (arith, ints, nat_tests)

module _ (b : TreeStructure) (ok : IsBasis b) (z : List ℤ) (free : IsFreeCirculation b.net (state_of b).amounts z) where
  -- the ends of an arc of the tree that is one of the net
  tree_ends : (v : ℕ) → IsNode (node_count b.net) v → IsArcNumber b.net (label_of b.tree v) →
      (((arc_at b.net (label_of b.tree v)).src ≡ v) × ((arc_at b.net (label_of b.tree v)).dst ≡ parent_of b.tree v)) ⊎
      (((arc_at b.net (label_of b.tree v)).src ≡ parent_of b.tree v) × ((arc_at b.net (label_of b.tree v)).dst ≡ v))
  tree_ends v h own =
      let same = own_arc b.net (label_of b.tree v) own in
      elim ((ok.tree_arcs v h).joins) [
        | out_of s d ↦ inl (sym (ap (λ a. a.src) same) ∙ s, sym (ap (λ a. a.dst) same) ∙ d)
        | into s d ↦ inr (sym (ap (λ a. a.src) same) ∙ s, sym (ap (λ a. a.dst) same) ∙ d)
      ]

  -- an arc outside the tree is at a bound
  outside_zero : (k : ℕ) → IsArcNumber b.net k → ¬ IsInTree b k → at_arc z k ≡ pos 0
  outside_zero k h out =
      let a : IsNetArc (arc_at b.net k) = net_arc_at b.net k ok.of_net h in
      let same : at_arc (state_of b).amounts k ≡ carried b k = own_carried b ok k (pos 0) h in
      free.zero_at_bounds k h (elim (ok.at_bounds k (own_label b.net k h) out) [
        | inl e ↦ inl (same ∙ (e ∙ sym a.no_low))
        | inr f ↦ inr (same ∙ f.1)
      ])

  from_the_leaves : (j v : ℕ) → IsNode (node_count b.net) v → size_of b.tree ≤ depth_of b.tree v + j → IsArcNumber b.net (label_of b.tree v)
      → at_arc z (label_of b.tree v) ≡ pos 0
  from_the_leaves zero v h deep own = absurd (let s = depth-lt b.tree.parents (depth_of b.tree) ok.spanning.rooted v (in_tree b ok v h.1) in omega
      (arith, s, deep))
  from_the_leaves (suc j) v h deep own =
      let apart = parent_apart ok.spanning.rooted v h.0 (in_tree b ok v h.1) in
      let term = other_term j v h deep (λ u hu du ou. from_the_leaves j u hu du ou) in
      let out : flow_sum (λ a f. when (eqb a.src v) f) b.net.arcs z ≡ when (eqb (arc_at b.net (label_of b.tree v)).src v) (at_arc z (label_of b.tree v)) =
      single_term (λ a f. when (eqb a.src v) f) b.net.arcs z (label_of b.tree v - 1) free.one_per_arc (omega arith) (λ i l ne. (term i l ne).0) in
      let inn : flow_sum (λ a f. when (eqb a.dst v) f) b.net.arcs z ≡ when (eqb (arc_at b.net (label_of b.tree v)).dst v) (at_arc z (label_of b.tree v)) =
      single_term (λ a f. when (eqb a.dst v) f) b.net.arcs z (label_of b.tree v - 1) free.one_per_arc (omega arith) (λ i l ne. (term i l ne).1) in
      alone v (parent_of b.tree v) (arc_at b.net (label_of b.tree v)) (at_arc z (label_of b.tree v)) apart (tree_ends v h own)
      (omega (arith, ints, out, inn, free.balanced v h))
    where
      -- every other arc adds nothing: it is outside the tree, or that of a deeper node, or not at v
      other_term : (j v : ℕ) → IsNode (node_count b.net) v → size_of b.tree ≤ depth_of b.tree v + suc j →
          ((u : ℕ) → IsNode (node_count b.net) u → size_of b.tree ≤ depth_of b.tree u + j → IsArcNumber b.net (label_of b.tree u) → at_arc z (label_of b.tree u)
          ≡ pos 0) → (i : ℕ) → i < length b.net.arcs → i ≢ label_of b.tree v - 1 →
          (when (eqb (get_or b.net.arcs i no_arc).src v) (get_or z i (pos 0)) ≡ pos 0) ×
          (when (eqb (get_or b.net.arcs i no_arc).dst v) (get_or z i (pos 0)) ≡ pos 0)
      other_term = λ j v h deep ih i l ne.
          let back : i + 1 - 1 ≡ i = omega arith in
          let k : IsArcNumber b.net (i + 1) = (omega arith, omega arith) in
          let read : at_arc z (i + 1) ≡ get_or z i (pos 0) = ap (λ q. get_or z q (pos 0)) back in
          elim (cases_in_tree b (i + 1)) [
            | inr out ↦ nothing_at v (get_or b.net.arcs i no_arc) (get_or z i (pos 0)) (sym read ∙ outside_zero (i + 1) k out)
            | inl t ↦ (let own : IsArcNumber b.net (label_of b.tree t.node) = subst (IsArcNumber b.net) (sym t.labelled) k in
                let up = (let n = t.is_node in ok.spanning.rooted.falls t.node (omega (arith, n)) (in_tree b ok t.node n.1)) in
                let other : t.node ≢ v = (λ q. (let e : label_of b.tree v ≡ i + 1 = sym (ap (label_of b.tree) q) ∙ t.labelled in ne (omega (arith, e)))) in
                elim (cases_eq (parent_of b.tree t.node) v) [
                  | inl child ↦ (let d : depth_of b.tree (parent_of b.tree t.node) ≡ depth_of b.tree v = ap (depth_of b.tree) child in
                      nothing_at v (get_or b.net.arcs i no_arc) (get_or z i (pos 0))
                      (sym read ∙ (ap (at_arc z) (sym t.labelled) ∙ ih t.node t.is_node (omega (arith, d, up, deep)) own)))
                  | inr away ↦ (let arc = ap (arc_at b.net) t.labelled ∙ ap (λ q. get_or b.net.arcs q no_arc) back in
                      elim (tree_ends t.node t.is_node own) [
                        | inl ends ↦ elsewhere v (get_or b.net.arcs i no_arc) (get_or z i (pos 0)) (λ q. other (sym ends.0 ∙ (ap (λ a. a.src) arc ∙ q)))
                            (λ q. away (sym ends.1 ∙ (ap (λ a. a.dst) arc ∙ q)))
                        | inr ends ↦ elsewhere v (get_or b.net.arcs i no_arc) (get_or z i (pos 0)) (λ q. away (sym ends.0 ∙ (ap (λ a. a.src) arc ∙ q)))
                            (λ q. other (sym ends.1 ∙ (ap (λ a. a.dst) arc ∙ q)))
                      ])
                ])
          ]

  pub zero_everywhere : (k : ℕ) → IsArcNumber b.net k → at_arc z k ≡ pos 0
  zero_everywhere k h =
      elim (cases_in_tree b k) [
        | inl t ↦ ap (at_arc z) (sym t.labelled) ∙ from_the_leaves (size_of b.tree) t.node t.is_node (omega arith)
            (subst (IsArcNumber b.net) (sym t.labelled) h)
        | inr out ↦ outside_zero k h out
      ]

pub bases_are_tree_solutions_lem : BasesAreTreeSolutions
bases_are_tree_solutions_lem b ok = λ z free k h. zero_everywhere b ok z free k h
