use Rattle.std.proofs.Common.{◌≡◌, length, map, take}
use Rattle.mcf_c.specs.Handing.{mark_of}
use Rattle.mcf_c.proofs.handing.put_marks.Given as goal

abbrev pub invariant-loop-i : goal.invariant-loop-i
invariant-loop-i l = record {
  same : length l.marks ≡ length l.table;
  written : take l.i l.marks ≡ take l.i (map mark_of l.table);
}
