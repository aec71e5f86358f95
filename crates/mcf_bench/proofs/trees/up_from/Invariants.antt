use Rattle.std.proofs.Common.{◌<◌}
use Rattle.mcf_tree.specs.SpanningTree.{size_of, IsAbove}
use Rattle.mcf_bench.proofs.trees.up_from.Given as goal

abbrev pub invariant-loop : goal.invariant-loop
invariant-loop l = record {
  positive : 0 < l.out;
  in_range : l.out < size_of l.tree;
  above : IsAbove l.tree l.out l.fn.inner;
}
