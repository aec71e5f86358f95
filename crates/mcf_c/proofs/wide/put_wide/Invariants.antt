use Rattle.std.proofs.Common.{◌≡◌, length, map, take}
use Rattle.mcf_c.specs.DoubleMatrices.{wide_value}
use Rattle.mcf_c.proofs.wide.put_wide.Given as goal

abbrev pub invariant-loop-i : goal.invariant-loop-i
invariant-loop-i l = record {
  same : length l.room ≡ length l.numbers;
  written : map wide_value (take l.i l.room) ≡ take l.i l.numbers;
}
