use Rattle.std.proofs.Common.{length}
use Rattle.mcf_scaling.specs.Private.Queues.{HoldsActive}
use Rattle.mcf_scaling.proofs.queue.tidy.Given as goal

abbrev pub invariant-fronts : goal.invariant-fronts
invariant-fronts l = HoldsActive l.state l.queue

abbrev pub decreases-fronts : goal.decreases-fronts
decreases-fronts l = length l.queue.nodes
