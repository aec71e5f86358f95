use Rattle.std.proofs.Common.{length}
use Rattle.mcf_matching.proofs.Raising.{all_unmarked}
use Rattle.mcf_matching.proofs.augmenting.unmark.Goals as goal

pub returns : goal.returns
returns c =
    all_unmarked (length c.args.marks.now) c.nodes.marks c.args.nodes.now c.nodes.v-index c.nodes.invariant c.nodes-test.false
