-- A feasible flow that some prices show is least.
use Rattle.std.proofs.Common.{◌≡◌, zero, suc, List, ap, sym, ◌∙◌, arith, ℤ, pos, negsuc, ◌+ℤ◌, ◌-ℤ◌, ◌≤ℤ◌, ◌<ℤ◌}
use Rattle.std.specs.List.{All}
use Rattle.std.proofs.Math.IntN.{◌*ℤ◌}
use Rattle.std.proofs.lemmas.Int.{ints}
use Rattle.mcf_flows.specs.declared.arc.Arc.{Arc}
use Rattle.mcf_flows.specs.Network.{Network, at_node, flow_sum, node_count, node_sum}
use Rattle.mcf_flows.specs.Flow.{CanCarry, IsFeasible, IsComplementary, cost, net, reduced_cost}
use Rattle.mcf_flows.specs.WellFormed.{HasEnds}
use Rattle.mcf_flows.specs.Laws.{ShownFlowsAreLeast}
use Rattle.mcf_flows.proofs.IntLaws.{mul-mono, mul-anti, sub-mul}
use Rattle.mcf_flows.proofs.ArcSums.{flow_sum-sub, flow_sum-same, flow_sum-le_two}
use Rattle.mcf_flows.proofs.NodeSums.{node_sum-same, node_sum-net}

-- where an arc is complementary, no other flow within its bounds has a smaller product with the
-- reduced cost r
no_smaller : (r low cap f other : ℤ) → (pos 0 <ℤ r → f ≡ low) → (r <ℤ pos 0 → f ≡ cap) → low ≤ℤ other → other ≤ℤ cap → (r *ℤ f) ≤ℤ (r *ℤ other)
no_smaller (pos zero) low cap f other above below l u = omega (arith, ints)
no_smaller (pos (suc n)) low cap f other above below l u =
    let e : f ≡ low = above (omega (arith, ints)) in mul-mono (pos (suc n)) f other (omega (arith, ints)) (omega (arith, ints))
no_smaller (negsuc n) low cap f other above below l u =
    let e : f ≡ cap = below (omega (arith, ints)) in mul-anti (negsuc n) other f (omega (arith, ints)) (omega (arith, ints))

-- the sum of reduced costs by flows is the cost less what the prices make of the supplies
pub reduced_total : (g : Network) (prices flow : List ℤ) → All (HasEnds (node_count g)) g.arcs → IsFeasible g flow
    → flow_sum (λ a f. reduced_cost prices a *ℤ f) g.arcs flow ≡ cost g.arcs flow -ℤ node_sum (λ v. at_node prices v *ℤ at_node g.supplies v) (node_count g)
reduced_total g prices flow ends feasible =
    flow_sum-same (HasEnds (node_count g)) (λ a f. reduced_cost prices a *ℤ f) (λ a f. a.cost *ℤ f -ℤ (at_node prices a.src -ℤ at_node prices a.dst) *ℤ f)
    split g.arcs flow ends
    ∙ flow_sum-sub (λ a f. a.cost *ℤ f) (λ a f. (at_node prices a.src -ℤ at_node prices a.dst) *ℤ f) g.arcs flow
    ∙ ap (λ z. cost g.arcs flow -ℤ z) (sym (node_sum-net (at_node prices) (node_count g) g.arcs flow ends))
    ∙ ap (λ z. cost g.arcs flow -ℤ z) (node_sum-same (λ v. at_node prices v *ℤ net g.arcs flow v) (λ v. at_node prices v *ℤ at_node g.supplies v)
    (node_count g) (λ v h. ap (λ z. at_node prices v *ℤ z) (feasible.meets_supplies v h)))
  where
    regroup : (c s t : ℤ) → c -ℤ s +ℤ t ≡ c -ℤ (s -ℤ t)
    regroup c s t = omega (arith, ints)

    split : (a : Arc) (f : ℤ) → HasEnds (node_count g) a → reduced_cost prices a *ℤ f ≡ a.cost *ℤ f -ℤ (at_node prices a.src -ℤ at_node prices a.dst) *ℤ f
    split a f h =
        ap (λ z. z *ℤ f) (regroup a.cost (at_node prices a.src) (at_node prices a.dst))
        ∙ sub-mul a.cost (at_node prices a.src -ℤ at_node prices a.dst) f

pub shown_flows_are_least_lem : ShownFlowsAreLeast
shown_flows_are_least_lem g prices flow ends feasible shows = record { feasible = feasible; least = least }
  where
    least : (other : List ℤ) → IsFeasible g other → cost g.arcs flow ≤ℤ cost g.arcs other
    least other o =
        let r = λ (a : Arc) (f : ℤ). reduced_cost prices a *ℤ f in
        let le : flow_sum r g.arcs flow ≤ℤ flow_sum r g.arcs other =
        flow_sum-le_two (IsComplementary prices) CanCarry r r (λ a f h t q. no_smaller (reduced_cost prices a) a.low a.cap f h t.0 t.1 q.0 q.1) g.arcs flow
        other shows o.within_bounds
        in
        omega (arith, ints, le, reduced_total g prices flow ends feasible, reduced_total g prices other ends o)
