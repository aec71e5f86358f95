use Rattle.std.proofs.Common.{◌≡◌, drop}
use Rattle.std.specs.Prelude.{max}
use Rattle.mcf_pair_tables.specs.PairCosts.{scale_of_pairs}
use Rattle.mcf_pair_tables.proofs.costs.scale_of.Given as goal

abbrev pub invariant-loop-place : goal.invariant-loop-place
invariant-loop-place l = max l.scale (scale_of_pairs (drop l.place l.pairs)) ≡ scale_of_pairs l.pairs
