use Rattle.std.proofs.Common.{◌≡◌, ◌++◌, drop, map, take}
use Rattle.std.specs.Prelude.{filter}
use Rattle.std.specs.List.{flat_map, range_with_len}
use Rattle.mcf_pair_tables.specs.PairGroups.{group_in, seen}
use Rattle.mcf_pair_tables.proofs.grouping.groups_of.Given as goal

abbrev pub invariant-loop-place : goal.invariant-loop-place
invariant-loop-place l = map seen l.made.items ≡ flat_map (group_in l.table) (take l.place l.numbers)
