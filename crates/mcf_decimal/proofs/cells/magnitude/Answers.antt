use Rattle.std.proofs.Common.{◌∙◌, ◌-◌, ◌^◌, ℕ, inl, inr, min, get_or, take, sym, ap}
use Rattle.std.proofs.Common.{take_all, List}
use Rattle.std.proofs.lemmas.Bool.{cases_Bool}
use Rattle.std.specs.Char.{is_ascii_digit}
use Rattle.std.specs.Str.Parse.{digits_value}
use Rattle.mcf_decimal.proofs.DigitLemmas.{kept, more_digit, more_other, value_kept}
use Rattle.mcf_decimal.proofs.cells.magnitude.Goals as goal

pub loop-byte-preserved : goal.loop-byte-preserved
loop-byte-preserved c =
    let xs = c.args.bytes.now in
    let i = c.loop-byte.byte-index in
    elim (cases_Bool (is_ascii_digit (get_or xs i 0))) [
      | inl is ↦
          c.with_byte-sum.ensures.digit is (digits_value 10 (kept (take i xs))) c.loop-byte.invariant
          ∙ ap (λ (n : ℕ). min n (2 ^ 128 - 1)) (sym (more_digit xs i c.loop-byte-test.true is))
      | inr other ↦
          c.with_byte-sum.ensures.other other ∙ c.loop-byte.invariant
          ∙ ap (λ (n : ℕ). min n (2 ^ 128 - 1)) (sym (more_other xs i c.loop-byte-test.true other))
    ]

pub returns : goal.returns
returns c =
    let xs = c.args.bytes.now in
    c.loop-byte.invariant
    ∙ ap (λ (n : ℕ). min n (2 ^ 128 - 1))
    (ap (λ (ys : List ℕ). digits_value 10 (kept ys)) (take_all c.loop-byte.byte-index xs c.loop-byte-test.false) ∙ value_kept xs)
