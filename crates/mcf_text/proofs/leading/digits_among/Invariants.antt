use Rattle.std.proofs.Common.{◌≡◌, ◌+◌, ◌-◌, ◌≤◌, take, drop, length}
use Rattle.std.specs.Char.{is_ascii_digit}
use Rattle.std.specs.List.{prefix_len}
use Rattle.std.specs.Str.Parse.{AllDigits, digits_value}
use Rattle.mcf_text.specs.Leading.{digit_count}
use Rattle.mcf_text.proofs.leading.digits_among.Given as goal

abbrev pub invariant-digits : goal.invariant-digits
invariant-digits l = record {
  inside : l.count ≤ l.most;
  most : (l.most ≤ 18) × (l.most ≤ length l.bytes);
  all : AllDigits 10 (take l.count l.bytes);
  value : l.value ≡ digits_value 10 (take l.count l.bytes);
  counted : digit_count l.bytes ≡ l.count + prefix_len is_ascii_digit (drop l.count (take 18 l.bytes));
}

abbrev pub decreases-digits : goal.decreases-digits
decreases-digits l = l.most - l.count
