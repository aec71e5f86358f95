use Rattle.std.proofs.Common.{◌≡◌, ◌++◌, drop, map, take}
use Rattle.std.specs.Prelude.{filter}
use Rattle.std.specs.List.{flat_map, range_with_len}
use Rattle.mcf_pair_tables.specs.GroupedAnswers.{named_bound}
use Rattle.mcf_pair_tables.proofs.grouped.named_bounds.Given as goal

abbrev pub invariant-loop-at : goal.invariant-loop-at
invariant-loop-at l = l.made.items ≡ map (named_bound l.kept) (take l.at l.bounds)
