use Rattle.std.proofs.Common.{◌≡◌, ◌++◌, drop, map, take}
use Rattle.std.specs.Prelude.{filter}
use Rattle.std.specs.List.{flat_map, range_with_len}
use Rattle.mcf_pair_tables.specs.PairGroups.{is_in_group, member_number}
use Rattle.mcf_pair_tables.proofs.grouping.members_in.Given as goal

abbrev pub invariant-loop-place : goal.invariant-loop-place
invariant-loop-place l = l.made.items ≡ map member_number (filter (is_in_group l.number) (take l.place l.table.members))
