use Rattle.std.proofs.Common.{◌≡◌, take}
use Rattle.std.specs.Str.Parse.{AllDigits, digits_value}
use Rattle.mcf_text.proofs.decimal.short_magnitude.Given as goal

abbrev pub invariant-loop-digit : goal.invariant-loop-digit
invariant-loop-digit l = record {
  all : AllDigits 10 (take l.digit-index l.digits);
  value : l.sum ≡ digits_value 10 (take l.digit-index l.digits);
}
