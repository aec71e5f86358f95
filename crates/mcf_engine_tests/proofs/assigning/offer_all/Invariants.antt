use Rattle.std.proofs.Common.{◌≡◌}
use Rattle.mcf_engine_tests.proofs.assigning.offer_all.Given as goal

abbrev pub invariant-nodes : goal.invariant-nodes
invariant-nodes l = l.matching.flow.net ≡ l.net
