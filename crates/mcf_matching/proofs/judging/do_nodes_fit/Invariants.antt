use Rattle.std.proofs.Common.{ℕ}
use Rattle.mcf_flows.specs.Network.{IsNode, at_node}
use Rattle.mcf_matching.specs.Private.Updating.{DoesNodeFit}
use Rattle.mcf_matching.proofs.judging.do_nodes_fit.Given as goal

abbrev pub invariant-nodes : goal.invariant-nodes
invariant-nodes l = (v : ℕ) → IsNode l.number v → DoesNodeFit l.scene.state.now l.scene.prices.now v (at_node l.prices v)
