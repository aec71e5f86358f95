use Rattle.std.proofs.Common.{◌≡◌, ◌+◌, ◌-◌, ◌^◌, min, take}
use Rattle.std.specs.Str.Parse.{AllDigits, digits_value}
use Rattle.mcf_text.proofs.decimal.long_magnitude.Given as goal

abbrev pub invariant-loop-digit : goal.invariant-loop-digit
invariant-loop-digit l = record {
  all : AllDigits 10 (take (17 + l.digit-index) l.digits);
  value : l.sum ≡ min (digits_value 10 (take (17 + l.digit-index) l.digits)) (2 ^ 128 - 1);
}
