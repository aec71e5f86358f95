use Rattle.std.proofs.Common.{◌≡◌, ◌++◌, drop}
use Rattle.mcf_table.specs.Rows.{doubled}
use Rattle.mcf_table.proofs.written.put_doubled.Given as goal

abbrev pub invariant-loop-byte : goal.invariant-loop-byte
invariant-loop-byte l = l.out.items ++ doubled (drop l.byte-index l.bytes) ≡ l.initial.out.items ++ doubled l.bytes
