-- No rank lies far below 0.
use Rattle.std.proofs.Common.{◌≡◌, ℕ, suc, ◌+◌, ◌*◌, ◌<◌, List, [], ◌∷◌, length, map, drop, sum, get_or, refl, ap, arith, ℤ, pos, neg_ℤ, ◌+ℤ◌, ◌*ℤ◌, ◌≤ℤ◌}
use Rattle.std.proofs.lemmas.Int.{ints}
use Rattle.std.proofs.lemmas.List.FromFn.{length-map-range_with_len}
use Rattle.mcf_flows.specs.declared.arc.Arc.{Arc}
use Rattle.mcf_flows.specs.Network.{IsNode, flow_sum, node_count}
use Rattle.mcf_flows.specs.WellFormed.{IsUpTo, weight}
use Rattle.mcf_flows.proofs.Bounds.{cost_up_to}
use Rattle.mcf_flows.proofs.IntLaws.{mul-mono_left, mul_at_least_zero, neg-mul}
use Rattle.mcf_network.specs.Residual.{no_arc}
use Rattle.mcf_basis.specs.Artificial.{artificial_arc, artificial_cost}
use Rattle.mcf_basis.specs.Bases.{IsBasis}
use Rattle.mcf_basis.specs.Laws.{RanksCountDown}
use Rattle.mcf_basis.specs.Pivots.{full_cost, price_sum}
use Rattle.mcf_basis.specs.Ranks.{price_reach, rank_above, rank_depth, rank_of}
use Rattle.mcf_basis.specs.Structures.{TreeStructure, state_of}
use Rattle.mcf_basis.proofs.Labels.{added_arcs, amount_count, arc_at_place, read_added, split_sum, added_label}
use Rattle.mcf_basis.proofs.LastBases.{size_low, within}
use Rattle.mcf_basis.proofs.RankLaws.{price_sum_reached, rank_falls}

sum_low : (t : Arc → ℤ → ℤ) (arcs : List Arc) (flow : List ℤ)
    → ((i : ℕ) → i < length arcs → i < length flow → pos 0 ≤ℤ t (get_or arcs i no_arc) (get_or flow i (pos 0))) → pos 0 ≤ℤ flow_sum t arcs flow
sum_low t [] flow each = omega (arith, ints)
sum_low t (a ∷ arcs) [] each = omega (arith, ints)
sum_low t (a ∷ arcs) (f ∷ flow) each =
    let rest : pos 0 ≤ℤ flow_sum t arcs flow = sum_low t arcs flow (λ i l m. each (suc i) (omega arith) (omega arith)) in
    omega (arith, ints, each 0 (omega arith) (omega arith), rest)

artificial_paid : (b : TreeStructure) → IsBasis b → (i : ℕ) → i < length (added_arcs b.net)
    → pos 0 ≤ℤ ((get_or (added_arcs b.net) i no_arc).cost *ℤ get_or (drop (length b.net.arcs) b.amounts) i (pos 0))
artificial_paid b ok i h =
    let n : length (added_arcs b.net) ≡ node_count b.net = length-map-range_with_len (artificial_arc b.net) 1 (node_count b.net) in
    let node : IsNode (node_count b.net) (i + 1) = (omega arith, omega (arith, n, h)) in
    let held = ok.flow.within_bounds (length b.net.arcs + (i + 1)) (added_label b.net (i + 1) node) in
    let read = read_added b i (i + 1) refl in
    let paid = ap (λ a. a.cost) (arc_at_place b.net i (omega (arith, n, h))) in
    mul_at_least_zero (get_or (added_arcs b.net) i no_arc).cost
    (get_or (drop (length b.net.arcs) b.amounts) i (pos 0)) (omega (arith, ints, paid)) (omega (arith, ints, read, held.low))

-- a basis costs no less than all arcs of the net can earn
cost_low : (b : TreeStructure) → IsBasis b → neg_ℤ (pos (artificial_cost b.net)) ≤ℤ full_cost b
cost_low b ok =
    let own = cost_up_to b.net.arcs (state_of b).amounts (sum (map weight b.net.arcs)) (omega arith) (within b ok) in
    let paid = sum_low (λ a f. a.cost *ℤ f) (added_arcs b.net) (drop (length b.net.arcs) b.amounts)
    (λ i l m. artificial_paid b ok i l) in
    omega (arith, ints, split_sum (λ a f. a.cost *ℤ f) b.net b.amounts (omega (arith, amount_count b ok)), own, paid)

-- over plain numbers
deep : (c s : ℤ) (low half : ℕ) → neg_ℤ (pos low) ≤ℤ c → IsUpTo half s → pos 0 ≤ℤ ((c *ℤ pos (2 * half + 1) +ℤ s) +ℤ pos (low * (2 * half + 1) + 2 * half))
deep c s low half h near =
    let turned : neg_ℤ (pos low) *ℤ pos (2 * half + 1) ≡ neg_ℤ (pos low *ℤ pos (2 * half + 1)) = neg-mul (pos low) (pos (2 * half + 1)) in
    let product : pos low *ℤ pos (2 * half + 1) ≡ pos (low * (2 * half + 1)) = refl in
    omega (arith, ints, mul-mono_left (neg_ℤ (pos low)) c (pos (2 * half + 1)) (omega (arith, ints)) h, turned, product, near)

counted : (b : TreeStructure) → IsBasis b → pos (rank_above b) ≡ rank_of b +ℤ pos (rank_depth b.net)
counted b ok =
    size_low (rank_of b +ℤ pos (rank_depth b.net)) (deep (full_cost b) (price_sum b) (artificial_cost b.net) (node_count b.net * price_reach b.net)
    (cost_low b ok) (price_sum_reached b ok))

pub ranks_count_down_lem : RanksCountDown
ranks_count_down_lem old new ok ok' net falls =
    omega (arith, ints, rank_falls old new ok ok' net falls, counted old ok, counted new ok', ap (λ g. pos (rank_depth g)) net)
