use Rattle.std.proofs.Common.{◌≡◌, ◌++◌}
use Rattle.std.specs.List.{flat_map, range_with_len}
use Rattle.mcf_period_reading.specs.NearHeads.{near_fault}
use Rattle.mcf_period_reading.proofs.near_heads.push_near_titles.Given as goal

abbrev pub invariant-loop-place : goal.invariant-loop-place
invariant-loop-place l = l.faults.items ≡ l.initial.faults.items ++ flat_map (near_fault l.table l.records) (range_with_len 0 l.place)
