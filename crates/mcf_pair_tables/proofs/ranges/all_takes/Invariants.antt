use Rattle.std.proofs.Common.{◌≡◌, map, take}
use Rattle.mcf_pair_tables.specs.PairRanges.{takes_range}
use Rattle.mcf_pair_tables.proofs.ranges.all_takes.Given as goal

abbrev pub invariant-loop-one : goal.invariant-loop-one
invariant-loop-one l = l.made.items ≡ map (takes_range l.each) (take l.one-index l.said)
