use Rattle.std.proofs.Common.{◌≡◌, ◌+◌, ◌-◌, ◌≤◌, length, take}
use Rattle.std.specs.List.{suffix_len}
use Rattle.mcf_decimal.specs.Numbers.{is_zero}
use Rattle.mcf_decimal.proofs.cells.end_zeros.Given as goal

abbrev pub invariant-zeros : goal.invariant-zeros
invariant-zeros l = record {
  inside : l.len ≤ length l.bytes;
  counted : suffix_len is_zero l.bytes ≡ length l.bytes - l.len + suffix_len is_zero (take l.len l.bytes);
}

abbrev pub decreases-zeros : goal.decreases-zeros
decreases-zeros l = l.len
