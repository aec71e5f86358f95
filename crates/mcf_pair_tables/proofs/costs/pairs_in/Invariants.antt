use Rattle.std.proofs.Common.{◌≡◌, map, take}
use Rattle.mcf_pair_tables.specs.PairCosts.{pair_in}
use Rattle.mcf_pair_tables.proofs.costs.pairs_in.Given as goal

abbrev pub invariant-loop-pair : goal.invariant-loop-pair
invariant-loop-pair l = l.made.items ≡ map (pair_in l.maximise l.scale) (take l.pair-index l.pairs)
