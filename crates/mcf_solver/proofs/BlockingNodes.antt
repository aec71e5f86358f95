-- The members of a set that blocks, as an answer names them.
use Rattle.std.proofs.Common.{◌≡◌, ◌≢◌, ℕ, ◌≤◌, Bool, true, List, [], ◌∷◌, length, sym, subst, ◌∙◌, arith, pos}
use Rattle.std.specs.List.{All}
use Rattle.std.specs.List.Sorted.{IsStrictlyIncreasing}
use Rattle.std.specs.Prelude.{◌↔◌, ◌<ℤ◌, ℤ}
use Rattle.std.proofs.lemmas.Int.{ints}
use Rattle.mcf_answer.specs.BlockingSet.{IsBlockingSet}
use Rattle.mcf_network.specs.Chosen.{IsChosenBlock, supply_total}
use Rattle.mcf_flows.specs.declared.problem.Side.{Side}
use Rattle.mcf_flows.specs.declared.problem.Side.TheVariants.{Send, Take}
use Rattle.mcf_flows.specs.Blocking.{Blocks, in_list, in_table}
use Rattle.mcf_flows.specs.Laws.{BlockedHasNoFlow}
use Rattle.mcf_flows.specs.Limits.{limits}
use Rattle.mcf_flows.specs.Network.{Network, IsNode, node_count}
use Rattle.mcf_flows.specs.WellFormed.{IsWellFormed}
use Rattle.mcf_flows.proofs.ArcSums.{arc_sum-zero}
use Rattle.mcf_flows.proofs.NodeSums.{node_sum-zero}
use Rattle.mcf_flows.proofs.SameSets.{Blocks-same}
use Rattle.mcf_network.specs.Laws.{NetsBlockAlike}
use Rattle.mcf_network.specs.Removal.{net_of}
use Rattle.mcf_network.proofs.RemovalLaws.{net_of-node_count}
use Rattle.mcf_solver.specs.Answering.{IsNoFlowProof}
use Rattle.mcf_solver.proofs.SupplyTotals.{supply_total-net_of}

-- the empty set doesn't block: nothing crosses its border
pub some_node : (g : Network) (nodes : List ℕ) (side : Side) → Blocks g (in_list nodes) side → 1 ≤ length nodes
some_node g [] Send h = absurd (omega (arith, ints, h, arc_sum-zero g.arcs, node_sum-zero (node_count g)))
some_node g [] Take h = absurd (omega (arith, ints, h, arc_sum-zero g.arcs, node_sum-zero (node_count g)))
some_node g (v ∷ nodes) side h = omega arith

-- the list names the nodes that a table marks, which block the net of an instance
module _ (g : Network) (table : List Bool) (nodes : List ℕ) (side : Side) (alike : NetsBlockAlike) (ok : IsWellFormed limits g)
    (chosen : IsChosenBlock (net_of g) table side) (same : (v : ℕ) → IsNode (node_count g) v → in_list nodes v ≡ in_table table v) where
  pub list_blocks : Blocks g (in_list nodes) side
  list_blocks =
      Blocks-same g (in_table table) (in_list nodes) ok.ends (λ v h. sym (same v h)) side ((alike g (in_table table) side ok.ends).0 chosen.blocks)

  total_is : supply_total (net_of g) ≡ supply_total g
  total_is = supply_total-net_of g ok.ends

  whole_list : supply_total g ≢ pos 0 → (v : ℕ) → IsNode (node_count g) v → in_list nodes v ≡ true
  whole_list other v h =
      same v h ∙ chosen.chosen.whole (λ e. other (sym total_is ∙ e)) v (subst (λ (n : ℕ). IsNode n v) (sym (net_of-node_count g)) h)

  pub set_in_range : All (IsNode (node_count g)) nodes → IsStrictlyIncreasing nodes → length nodes ≤ node_count g →
      IsBlockingSet (record { side = side; nodes = nodes })
  set_in_range all rises few = record {
    nonempty = some_node g nodes side list_blocks;
    few = let n = ok.nodes in omega (arith, few, n);
    are_nodes = λ k d h. let v = all k d h in let n = ok.nodes in omega (arith, v, n);
    ascending = rises;
  }

  pub shows_no_flow : All (IsNode (node_count g)) nodes → BlockedHasNoFlow → IsNoFlowProof g (record { side = side; nodes = nodes })
  shows_no_flow all blocked = record {
    right = record { of_instance = λ k d h. (all k d h).1; exceeds = list_blocks };
    none = λ flow. blocked g (in_list nodes) side flow ok.ends list_blocks;
    chosen = record {
      take = subst (λ (total : ℤ). (side ≡ Take) ↔ (total <ℤ pos 0)) total_is chosen.chosen.take;
      whole = whole_list;
    };
  }
