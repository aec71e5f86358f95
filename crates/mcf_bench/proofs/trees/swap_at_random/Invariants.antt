use Rattle.std.proofs.Common.{◌≡◌, ◌+◌}
use Rattle.mcf_tree.specs.SpanningTree.{size_of}
use Rattle.mcf_bench.proofs.trees.swap_at_random.Given as goal

abbrev pub invariant-loop-label : goal.invariant-loop-label
invariant-loop-label l = size_of l.tree ≡ l.nodes + 1
