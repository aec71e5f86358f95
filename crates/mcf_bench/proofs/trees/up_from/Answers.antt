use Rattle.std.proofs.Common.{arith}
use Rattle.mcf_tree.proofs.Meeting.{path_parent}
use Rattle.mcf_bench.proofs.trees.up_from.Goals as goal

pub loop-preserved : goal.loop-preserved
loop-preserved c = record {
  positive = omega arith;
  in_range = rw c.parent-parent.ensures.value (c.parent-parent.ensures.spanning.rooted.within c.loop.out c.loop.invariant.in_range);
  above = rw c.parent-parent.ensures.value (path_parent c.args.tree.now.parents c.args.inner c.loop.out c.loop.invariant.above);
}
