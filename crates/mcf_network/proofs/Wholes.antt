-- All nodes of a net: they block where the net is out of balance, and else their surpluses cancel.
use Rattle.std.proofs.Common.{◌≡◌, ℕ, Bool, true, sym, ◌∙◌, arith, pos, ◌-ℤ◌, ◌≤ℤ◌, ◌<ℤ◌}
use Rattle.std.proofs.lemmas.Int.{ints, by_lt_z}
use Rattle.mcf_flows.specs.declared.problem.Side.TheVariants.{Send, Take}
use Rattle.mcf_flows.specs.Blocking.{Blocks}
use Rattle.mcf_flows.specs.Flow.{net}
use Rattle.mcf_flows.specs.Network.{Network, IsNode, at_node, node_count, node_sum}
use Rattle.mcf_flows.proofs.ArcSums.{arc_sum-zero}
use Rattle.mcf_flows.proofs.NodeSums.{nets_cancel, node_sum-same, node_sum-sub, node_sum_above_zero}
use Rattle.mcf_flows.proofs.SameSets.{Blocks-same}
use Rattle.mcf_network.specs.Nets.{IsNet}
use Rattle.mcf_network.specs.States.{Pseudoflow, HasNoSurplus, IsPseudoflow, surplus_at}
use Rattle.mcf_network.specs.Chosen.{supply_total}

-- a set of all nodes has to send, or to take, what the supplies sum to
pub whole_sends : (g : Network) (set : ℕ → Bool) → IsNet g → ((v : ℕ) → IsNode (node_count g) v → set v ≡ true) → pos 0 <ℤ supply_total g → Blocks g set Send
whole_sends g set ok all h =
    Blocks-same g (λ _. true) set ok.ends (λ v l. sym (all v l)) Send (omega (arith, ints, h, arc_sum-zero g.arcs))

pub whole_takes : (g : Network) (set : ℕ → Bool) → IsNet g → ((v : ℕ) → IsNode (node_count g) v → set v ≡ true) → supply_total g <ℤ pos 0 → Blocks g set Take
whole_takes g set ok all h =
    Blocks-same g (λ _. true) set ok.ends (λ v l. sym (all v l)) Take (omega (arith, ints, h, arc_sum-zero g.arcs))

-- ---- no surplus

-- where the supplies sum to 0 and no node has a surplus, none takes anything
pub settled : (s : Pseudoflow) → IsPseudoflow s → supply_total s.net ≡ pos 0 → ((v : ℕ) → IsNode (node_count s.net) v → surplus_at s v ≤ℤ pos 0)
    → HasNoSurplus s
settled s ok balanced none v h =
    by_lt_z (surplus_at s v) (pos 0) (λ p. absurd (let sum = node_sum_above_zero (λ w. pos 0 -ℤ surplus_at s w) (node_count s.net) v h (omega (arith, ints, p))
    (λ w l. omega (arith, ints, none w l)) in omega (
      arith,
      ints,
      sum,
      total,
      balanced,
      nets_cancel
          (node_count s.net) s.net.arcs s.amounts ok.of_net.ends,
    ))) (λ p. omega (arith, ints, p, none v h))
  where
    total : node_sum (λ w. pos 0 -ℤ surplus_at s w) (node_count s.net) ≡ node_sum (net s.net.arcs s.amounts) (node_count s.net) -ℤ supply_total s.net
    total =
        node_sum-same (λ w. pos 0 -ℤ surplus_at s w) (λ w. net s.net.arcs s.amounts w -ℤ at_node s.net.supplies w) (node_count s.net)
        (λ w l. omega (arith, ints))
        ∙ node_sum-sub (net s.net.arcs s.amounts) (at_node s.net.supplies) (node_count s.net)
