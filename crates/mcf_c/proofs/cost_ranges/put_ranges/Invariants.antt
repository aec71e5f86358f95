use Rattle.std.proofs.Common.{◌≡◌, length, map, take}
use Rattle.mcf_c.specs.CostRanges.{range_of}
use Rattle.mcf_c.proofs.cost_ranges.put_ranges.Given as goal

abbrev pub invariant-loop-place : goal.invariant-loop-place
invariant-loop-place l = record {
  same : length l.room ≡ length l.ranges;
  written : map range_of (take l.place l.room) ≡ take l.place l.ranges;
}
