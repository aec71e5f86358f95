use Rattle.std.proofs.Common.{◌≡◌, length}
use Rattle.mcf_engine.proofs.shortlist.put_thresholds.Given as goal

abbrev pub invariant-nodes : goal.invariant-nodes
invariant-nodes l = length l.passed.items ≡ length l.fn.passed.items
