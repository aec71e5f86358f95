-- Two tests that agree at each node are one node set, whose sums are the same.
use Rattle.std.proofs.Common.{◌≡◌, ℕ, Bool, ap, sym, ℤ, List, arith}
use Rattle.std.specs.List.{All}
use Rattle.std.specs.Prelude.{◌↔◌}
use Rattle.std.proofs.lemmas.Int.{ints}
use Rattle.mcf_flows.specs.declared.arc.Arc.{Arc}
use Rattle.mcf_flows.specs.declared.problem.Side.{Side}
use Rattle.mcf_flows.specs.declared.problem.Side.TheVariants.{Send, Take}
use Rattle.mcf_flows.specs.Network.{Network, IsNode, arc_sum, at_node, node_count, when}
use Rattle.mcf_flows.specs.Blocking.{Blocks, enters, in_list, in_table, leaves, supply_in}
use Rattle.mcf_flows.specs.WellFormed.{HasEnds}
use Rattle.mcf_flows.proofs.ArcSums.{arc_sum-same}
use Rattle.mcf_flows.proofs.NodeSums.{node_sum-same}

module _ (g : Network) (s t : ℕ → Bool) (ends : All (HasEnds (node_count g)) g.arcs) (same : (v : ℕ) → IsNode (node_count g) v → s v ≡ t v) where
  pub entering-same : (z : Arc → ℤ) → arc_sum (λ a. when (enters s a) (z a)) g.arcs ≡ arc_sum (λ a. when (enters t a) (z a)) g.arcs
  entering-same z =
      arc_sum-same (HasEnds (node_count g)) (λ a. when (enters s a) (z a)) (λ a. when (enters t a) (z a))
      (λ a h. rw (same a.dst h.dst_is_node, same a.src h.src_is_node)) g.arcs ends

  pub leaving-same : (z : Arc → ℤ) → arc_sum (λ a. when (leaves s a) (z a)) g.arcs ≡ arc_sum (λ a. when (leaves t a) (z a)) g.arcs
  leaving-same z =
      arc_sum-same (HasEnds (node_count g)) (λ a. when (leaves s a) (z a)) (λ a. when (leaves t a) (z a))
      (λ a h. rw (same a.src h.src_is_node, same a.dst h.dst_is_node)) g.arcs ends

  pub supply_in-same : supply_in g.supplies s ≡ supply_in g.supplies t
  supply_in-same =
      node_sum-same (λ v. when (s v) (at_node g.supplies v)) (λ v. when (t v) (at_node g.supplies v)) (node_count g)
      (λ v h. ap (λ b. when b (at_node g.supplies v)) (same v h))

  pub Blocks-same : (side : Side) → Blocks g s side → Blocks g t side
  Blocks-same Send h =
      omega (arith, ints, h, supply_in-same, entering-same (λ a. a.low), leaving-same (λ a. a.cap))
  Blocks-same Take h =
      omega (arith, ints, h, supply_in-same, leaving-same (λ a. a.low), entering-same (λ a. a.cap))

-- a table that marks the nodes of a list blocks where the list does
pub Blocks-table : (g : Network) (table : List Bool) (members : List ℕ) (side : Side) → All (HasEnds (node_count g)) g.arcs
    → ((v : ℕ) → IsNode (node_count g) v → in_table table v ≡ in_list members v) → Blocks g (in_table table) side ↔ Blocks g (in_list members) side
Blocks-table g table members side ends same =
    (Blocks-same g (in_table table) (in_list members) ends same side, Blocks-same g (in_list members) (in_table table) ends (λ v h. sym (same v h)) side)
