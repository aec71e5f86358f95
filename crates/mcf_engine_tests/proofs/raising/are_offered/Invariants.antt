use Rattle.std.proofs.Common.{◌≡◌, length}
use Rattle.mcf_engine_tests.proofs.raising.are_offered.Given as goal

abbrev pub invariant-offers : goal.invariant-offers
invariant-offers l = (length l.heap.keys ≡ 3) × (length l.heap.waiting ≡ 3)
