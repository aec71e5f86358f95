use Rattle.std.proofs.Common.{◌≡◌, take}
use Rattle.std.specs.List.{flat_map}
use Rattle.mcf_pair_tables.specs.PairCosts.{great_cell}
use Rattle.mcf_pair_tables.proofs.costs.great_cells.Given as goal

abbrev pub invariant-loop-pair : goal.invariant-loop-pair
invariant-loop-pair l = l.found.items ≡ flat_map (great_cell l.maximise l.scale) (take l.pair-index l.pairs)
