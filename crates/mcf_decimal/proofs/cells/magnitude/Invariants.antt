use Rattle.std.proofs.Common.{◌≡◌, ◌-◌, ◌^◌, min, take}
use Rattle.std.specs.Str.Parse.{digits_value}
use Rattle.mcf_decimal.proofs.DigitLemmas.{kept}
use Rattle.mcf_decimal.proofs.cells.magnitude.Given as goal

abbrev pub invariant-loop-byte : goal.invariant-loop-byte
invariant-loop-byte l = l.sum ≡ min (digits_value 10 (kept (take l.byte-index l.bytes))) (2 ^ 128 - 1)
