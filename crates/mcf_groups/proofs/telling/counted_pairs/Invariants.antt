use Rattle.std.proofs.Common.{◌≡◌, map, take}
use Rattle.mcf_groups.specs.MarkedPlaces.{counts_pair}
use Rattle.mcf_groups.specs.Nests.{nest_in}
use Rattle.mcf_groups.proofs.telling.counted_pairs.Given as goal

abbrev pub invariant-loop-place : goal.invariant-loop-place
invariant-loop-place l = l.made.items ≡ map (counts_pair l.cut.marks.now l.cut.side (nest_in l.nest)) (take l.place l.pairs)
