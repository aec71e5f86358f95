-- The value of a cell that is a number.
use Rattle.std.proofs.Common.{◌≡◌, ℕ, ◌+◌, ◌-◌, ◌≤◌, inl, inr, Bool, true, List, length, take, ℤ, sym, ap, subst, ◌∙◌, arith, length-drop}
use Rattle.std.specs.Prelude.{filter, FitsSigned}
use Rattle.std.specs.Char.{is_ascii_digit}
use Rattle.std.specs.Int.{w128}
use Rattle.std.specs.List.{suffix_len, position_or_len}
use Rattle.std.proofs.lemmas.Bool.{and_parts, cases_lt, leb-true, lt-ltb}
use Rattle.std.proofs.lemmas.Int.{to_z-of_z}
use mir.Val.{to_z, of_z}
use Rattle.mcf_text.specs.Whole.{digits_sum, signed_value}
use Rattle.mcf_decimal.specs.Groups.{is_digits}
use Rattle.mcf_decimal.specs.Marks.{is_byte_of}
use Rattle.mcf_decimal.specs.Numbers.{decimals, end_zeros, has_mark, is_number, is_zero, number_value}
use Rattle.mcf_decimal.specs.Signs.{is_negative, unsigned}
use Rattle.mcf_decimal.specs.declared.decimal.Decimal.{Decimal}
use Rattle.mcf_decimal.specs.declared.mark.Mark.{Mark}

-- a decimal by its parts
abbrev pub made : ℤ → ℕ → Decimal
made m p = record { mantissa = m; places = p }

-- how large the digits are, without the last ones
abbrev pub size_of : List ℕ → ℕ → ℕ
size_of body zeros = digits_sum (filter is_ascii_digit (take (length body - zeros) body))

pub value_is : (mark : Mark) (cell body decs : List ℕ) (below : Bool) (zeros : ℕ)
    → below ≡ is_negative cell → body ≡ unsigned cell → decs ≡ decimals mark body → zeros ≡ suffix_len is_zero decs
    → number_value mark cell ≡ made (signed_value below (size_of body zeros)) (length decs - zeros)
unfolding number_value end_zeros
value_is mark cell body decs below zeros b u d z = rw (b, z, d, u)

pub valued : (mark : Mark) (cell : List ℕ) (v m : ℤ) (p : ℕ) → number_value mark cell ≡ made v p → FitsSigned w128 v → m ≡ v
    → FitsSigned w128 ((number_value mark cell).mantissa) × (made (to_z w128 (of_z w128 m)) p ≡ number_value mark cell)
valued mark cell v m p is fits same = (
  subst (λ (d : Decimal). FitsSigned w128 (d.mantissa)) (sym is) fits,
  ap (λ (z : ℤ). made z p) (to_z-of_z w128 m (subst (FitsSigned w128) (sym same) fits) ∙ same) ∙ sym is,
)

digits_few : (bytes : List ℕ) → is_digits bytes ≡ true → length bytes ≤ 1000
unfolding is_digits
digits_few bytes is = leb-true (length bytes) 1000 ((and_parts _ _ is).1)

-- a number has few decimals
pub decimals_few : (mark : Mark) (cell : List ℕ) → is_number mark cell ≡ true → length (decimals mark (unsigned cell)) ≤ 1000
unfolding is_number has_mark decimals
decimals_few mark cell is =
    let body = unsigned cell in
    let n = position_or_len (is_byte_of mark) body in
    elim (cases_lt n (length body)) [
      | inl below ↦
          let there = lt-ltb n (length body) below in
          digits_few (decimals mark body) ((and_parts _ _ (rw there at is)).1)
      | inr past ↦ omega (arith, length-drop (n + 1) body)
    ]
