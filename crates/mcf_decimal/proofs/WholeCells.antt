-- Cells of a sign and digits alone.
use Rattle.std.proofs.Common.{◌≡◌, ℕ, ◌-◌, Bool, true, false, List, [], ◌∷◌, length, take, Option, refl, sym, ap, ◌∙◌, arith, take_all}
use Rattle.std.specs.Prelude.{filter, unwrap_or, nat_eq, ◌&&◌, not}
use Rattle.std.specs.Char.{is_ascii_digit}
use Rattle.std.specs.List.{list_all, list_any, position_or_len, starts_with}
use Rattle.std.specs.Option.{is_none}
use Rattle.std.proofs.lemmas.Bool.{and_left, and_parts, and_right, le-ltb, ne_eqb, or_from}
use Rattle.mcf_text.specs.Whole.{digits_sum, signed_value}
use Rattle.mcf_decimal.specs.Exponents.{is_mark}
use Rattle.mcf_decimal.specs.Groups.{is_digits}
use Rattle.mcf_decimal.specs.Laws.{CellsSayOneNumber, WholeNumbersReadAlike, whole_number}
use Rattle.mcf_decimal.specs.Marks.{is_byte_of}
use Rattle.mcf_decimal.specs.Numbers.{decimals, has_mark, is_either, is_number, is_open, is_whole_part, number_value}
use Rattle.mcf_decimal.specs.Signs.{is_negative, unsigned}
use Rattle.mcf_decimal.specs.declared.mark.Mark.{Mark}
use Rattle.mcf_decimal.specs.declared.mark.Mark.TheVariants.{Point, Comma}
use Rattle.mcf_decimal.proofs.CutLemmas.{cut_nowhere}
use Rattle.mcf_decimal.proofs.DigitLemmas.{in_range}
use Rattle.mcf_decimal.proofs.ValueLemmas.{made, value_is}

pub digit_no_mark : (mark : Mark) (c : ℕ) → is_ascii_digit c ≡ true → is_byte_of mark c ≡ false
digit_no_mark Point c is = let range = in_range c is in ne_eqb c 46 (λ e. omega (arith, range.0, e))
digit_no_mark Comma c is = let range = in_range c is in ne_eqb c 44 (λ e. omega (arith, range.0, e))

-- no mark stands among digits
pub marks_past : (mark : Mark) (ds : List ℕ) → list_all is_ascii_digit ds ≡ true → position_or_len (is_byte_of mark) ds ≡ length ds
marks_past mark [] all = refl
marks_past mark (d ∷ ds) all =
    let parts = and_parts (is_ascii_digit d) (list_all is_ascii_digit ds) all in
    let here : is_byte_of mark d ≡ false = digit_no_mark mark d parts.0 in
    rw here (omega (arith, marks_past mark ds parts.1))

pub no_mark : (ds : List ℕ) → list_all is_ascii_digit ds ≡ true → list_any is_mark ds ≡ false
no_mark [] all = refl
no_mark (d ∷ ds) all =
    let parts = and_parts (is_ascii_digit d) (list_all is_ascii_digit ds) all in
    or_from _ _ (or_from _ _ (digit_no_mark Point d parts.0) (digit_no_mark Comma d parts.0)) (no_mark ds parts.1)

-- digits are all kept
pub filter_digits : (ds : List ℕ) → list_all is_ascii_digit ds ≡ true → filter is_ascii_digit ds ≡ ds
filter_digits [] all = refl
filter_digits (d ∷ ds) all =
    let parts = and_parts (is_ascii_digit d) (list_all is_ascii_digit ds) all in
    rw parts.0 (ap (λ (xs : List ℕ). d ∷ xs) (filter_digits ds parts.1))

pub all_digits : (ds : List ℕ) → is_digits ds ≡ true → list_all is_ascii_digit ds ≡ true
unfolding is_digits
all_digits ds is = (and_parts _ _ ((and_parts _ _ is).0)).1

whole_is_number : (mark : Mark) (cell : List ℕ) → is_digits (unsigned cell) ≡ true → is_number mark cell ≡ true
unfolding is_number is_whole_part has_mark
whole_is_number mark cell is =
    let past = marks_past mark (unsigned cell) (all_digits (unsigned cell) is) in
    let none = le-ltb (position_or_len (is_byte_of mark) (unsigned cell)) (length (unsigned cell)) (omega (arith, past)) in
    rw (none, is)

none_of : (a p q m z : Bool) → m ≡ false → (a && (((p && q) && m) && z)) ≡ false
none_of a p q m z is = and_right a (((p && q) && m) && z) (and_left ((p && q) && m) z (and_right (p && q) m is))

whole_is_settled : (mark : Option Mark) (cell : List ℕ) → is_digits (unsigned cell) ≡ true → is_open mark cell ≡ false
unfolding is_open is_either
whole_is_settled mark cell is =
    none_of (is_none mark) (is_number Point cell) (is_number Comma cell) (list_any is_mark (unsigned cell))
    (not (starts_with nat_eq (unsigned cell) (48 ∷ []))) (no_mark (unsigned cell) (all_digits (unsigned cell) is))

no_decimals : (mark : Mark) (ds : List ℕ) → list_all is_ascii_digit ds ≡ true → [] ≡ decimals mark ds
unfolding decimals
no_decimals mark ds all = let cut = cut_nowhere (is_byte_of mark) ds (omega (arith, marks_past mark ds all)) in cut.back

whole_value_is : (mark : Mark) (cell : List ℕ) → is_digits (unsigned cell) ≡ true → whole_number cell ≡ number_value mark cell
whole_value_is mark cell is =
    let body = unsigned cell in
    let all = all_digits body is in
    let value = value_is mark cell body [] (is_negative cell) 0 refl refl (no_decimals mark body all) refl in
    let size : take (length body - 0) body ≡ body = take_all (length body - 0) body (omega arith) in
    ap (λ (ds : List ℕ). made (signed_value (is_negative cell) (digits_sum ds)) 0)
    (sym (ap (filter is_ascii_digit) size ∙ filter_digits body all))
    ∙ sym value

pub whole_numbers : WholeNumbersReadAlike
whole_numbers mark cell is = record {
  settled = whole_is_settled mark cell is;
  is = whole_is_number (unwrap_or mark Point) cell is;
  value = whole_value_is (unwrap_or mark Point) cell is;
}

pub one_number : CellsSayOneNumber
one_number mark cell a b one two = one.value ∙ sym two.value
