-- A tree solution of a net stands for a tree solution of the network.
use Rattle.std.proofs.Common.{◌≡◌, ℕ, ◌-◌, ◌<◌, ◌==◌, List, [], ◌∷◌, length, map, refl, sym, subst, ◌∙◌, arith, ℤ, inl, inr}
use Rattle.std.proofs.lemmas.Int.{ints}
use Rattle.std.proofs.lemmas.Bool.{cases_eq}
use Rattle.std.proofs.lemmas.List.{get_or-map, length-map}
use Rattle.std.proofs.lemmas.List.FromFn.{length-map-range_with_len}
use Rattle.mcf_flows.specs.declared.arc.Arc.{Arc}
use Rattle.mcf_flows.specs.Flow.{net}
use Rattle.mcf_flows.specs.Network.{Network, flow_sum, node_count, when}
use Rattle.mcf_network.specs.Laws.{RestoredTreeSolutionsAreTreeSolutions}
use Rattle.mcf_network.specs.Removal.{net_of, supply_left, without_low}
use Rattle.mcf_network.specs.Residual.{no_arc, arc_at}
use Rattle.mcf_network.specs.Restoring.{restored, restored_flow}
use Rattle.mcf_network.specs.TreeSolutions.{IsAtBound, IsFreeCirculation, at_arc}
use Rattle.mcf_network.proofs.RemovalLaws.{width_plain}
use Rattle.mcf_network.proofs.RestoringLaws.{get_or-restored, restored_loop, restored_plain, sign_of}

-- an arc of the net at a bound stands for an arc at a bound; a loop always does
at_bound_restored : (a : Arc) (x : ℤ) → IsAtBound (without_low a) x → IsAtBound a (restored_flow a x)
at_bound_restored a x h =
    elim (cases_eq a.src a.dst) [
      | inl e ↦ rw (restored_loop a x e) (elim (sign_of a.cost) [
        | inl s ↦ rw s.1 (inr refl)
        | inr s ↦ rw s.1 (inl refl)
      ])
      | inr n ↦ (let is = restored_plain a x n in let wide = width_plain a n in elim h [
        | inl p ↦ inl (omega (arith, ints, is, p))
        | inr p ↦ inr (omega (arith, ints, is, wide, p))
      ])
    ]

-- the net of a node asks for the ends of the arcs alone
flow_kept : (t : Arc → ℤ → ℤ) → ((a : Arc) (f : ℤ) → t (without_low a) f ≡ t a f) → (arcs : List Arc) (z : List ℤ)
    → flow_sum t (map without_low arcs) z ≡ flow_sum t arcs z
flow_kept t same [] z = refl
flow_kept t same (a ∷ arcs) [] = refl
flow_kept t same (a ∷ arcs) (f ∷ z) = omega (arith, ints, same a f, flow_kept t same arcs z)

net_kept : (arcs : List Arc) (z : List ℤ) (v : ℕ) → net (map without_low arcs) z v ≡ net arcs z v
net_kept arcs z v =
    let out = flow_kept (λ a f. when (a.src == v) f) (λ a f. refl) arcs z in
    let into = flow_kept (λ a f. when (a.dst == v) f) (λ a f. refl) arcs z in
    omega (arith, ints, out, into)

-- what is 0 where the restored flow is at a bound is 0 where the amount is
free_in_net : (g : Network) (amounts z : List ℤ) → length amounts ≡ length g.arcs → IsFreeCirculation g (restored g.arcs amounts) z
    → IsFreeCirculation (net_of g) amounts z
unfolding net_of
free_in_net g amounts z n circulation =
    let arc_count = length-map g.arcs without_low in
    let nodes = length-map-range_with_len (supply_left g) 1 (node_count g) in
    record {
      one_per_arc = circulation.one_per_arc ∙ sym arc_count;
      zero_at_bounds = λ k h bound.
          let within : k - 1 < length g.arcs = omega (arith, h, arc_count) in
          let arc : arc_at (net_of g) k ≡ without_low (arc_at g k) = get_or-map without_low g.arcs (k - 1) no_arc no_arc within in
          let at : at_arc (restored g.arcs amounts) k ≡ restored_flow (arc_at g k) (at_arc amounts k) = get_or-restored g.arcs amounts (k - 1) within (sym n) in
          let here = at_bound_restored (arc_at g k) (at_arc amounts k) (subst (λ a. IsAtBound a (at_arc amounts k)) arc bound) in
          circulation.zero_at_bounds k (omega (arith, h, arc_count)) (subst (IsAtBound (arc_at g k)) (sym at) here);
      balanced = λ v h. net_kept g.arcs z v ∙ circulation.balanced v (omega (arith, h, nodes));
    }

pub restored_tree_solutions_lem : RestoredTreeSolutionsAreTreeSolutions
unfolding net_of
restored_tree_solutions_lem g amounts n tree z circulation k h =
    tree z (free_in_net g amounts z n circulation) k (omega (arith, h, length-map g.arcs without_low))
