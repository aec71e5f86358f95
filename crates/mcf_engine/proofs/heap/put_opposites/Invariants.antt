use Rattle.std.proofs.Common.{◌≡◌, length, map, neg_ℤ, take}
use Rattle.mcf_engine.proofs.heap.put_opposites.Given as goal

abbrev pub invariant-keys : goal.invariant-keys
invariant-keys l = record { count : length l.keys ≡ length l.prices; done : take l.i l.keys ≡ map neg_ℤ (take l.i l.prices) }
