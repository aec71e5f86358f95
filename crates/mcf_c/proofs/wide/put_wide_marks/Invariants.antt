use Rattle.std.proofs.Common.{◌≡◌, length, map, take}
use Rattle.mcf_c.specs.DoubleMatrices.{wide_value}
use Rattle.mcf_c.specs.Handing.{mark_of}
use Rattle.mcf_c.proofs.wide.put_wide_marks.Given as goal

abbrev pub invariant-loop-i : goal.invariant-loop-i
invariant-loop-i l = record {
  same : length l.room ≡ length l.table;
  written : map wide_value (take l.i l.room) ≡ take l.i (map mark_of l.table);
}
