use Rattle.std.proofs.Common.{◌≡◌, ◌+◌, ◌-◌, ◌++◌, ◌≤◌, vec_len, vec_capacity}
use Rattle.std.specs.Prelude.{replicate}
use Rattle.mcf_decimal.proofs.written.put_zeros.Given as goal

abbrev pub invariant-zeros : goal.invariant-zeros
invariant-zeros l = record {
  inside : l.written ≤ l.count;
  items : l.out.items ≡ l.fn.out.items ++ replicate l.written 48;
  len : vec_len l.out ≡ vec_len l.fn.out + l.written;
  capacity : vec_capacity l.out ≡ vec_capacity l.fn.out;
}

abbrev pub decreases-zeros : goal.decreases-zeros
decreases-zeros l = l.count - l.written
