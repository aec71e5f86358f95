-- What a cell says as a number.
-- Source: own
use Rattle.std.specs.Prelude.{◌≡◌, ℕ, ◌-◌, ◌==◌, nat_lt, nat_eq, Bool, not, ◌&&◌, ◌||◌, if◌then◌else◌, List, [], ◌∷◌, length, take, filter, Option, Some, None, unwrap_or, Result, Ok, Err, ℤ, pos, neg_ℤ, int_le, int_lt, ◌^◌, FitsSigned, true, false, ◌⊎◌}
use Rattle.std.specs.Int.{w128}
use Rattle.std.specs.Char.{is_ascii_digit}
use Rattle.std.specs.List.{list_any, before_first, after_first, position_or_len, starts_with, suffix_len}
use Rattle.std.specs.Option.{is_none}
use Rattle.mcf_text.specs.Whole.{digits_sum, signed_value}
use Rattle.mcf_decimal.specs.Exponents.{is_mark, is_exponent}
use Rattle.mcf_decimal.specs.Groups.{is_digits, is_grouped, separators}
use Rattle.mcf_decimal.specs.Marks.{is_byte_of, other}
use Rattle.mcf_decimal.specs.Signs.{is_negative, unsigned}
use Rattle.mcf_decimal.specs.declared.decimal.Decimal.{Decimal}
use Rattle.mcf_decimal.specs.declared.mark.Mark.{Mark}
use Rattle.mcf_decimal.specs.declared.mark.Mark.TheVariants.{Point, Comma}
use Rattle.mcf_decimal.specs.declared.fault.NumberFault.{NumberFault}
use Rattle.mcf_decimal.specs.declared.fault.NumberFault.TheVariants.{Empty, Exponent, Either, OtherMark, NoNumber, TooLong}

-- the mark stands in the text
unfoldable pub has_mark : Mark → List ℕ → Bool
has_mark mark text = nat_lt (position_or_len (is_byte_of mark) text) (length text)

-- what stands before the first mark, or the whole text
unfoldable pub whole_part : Mark → List ℕ → List ℕ
whole_part mark text = before_first (is_byte_of mark) text

-- what stands after the first mark, or nothing
unfoldable pub decimals : Mark → List ℕ → List ℕ
decimals mark text = after_first (is_byte_of mark) text

-- digits, or digits with the other mark or blanks between thousands
unfoldable pub is_whole_part : Mark → List ℕ → Bool
is_whole_part mark text =
    is_digits text || is_grouped (separators (Some (other mark))) text || is_grouped (separators None) text

-- The cell is a number, if this mark stands before decimals: a sign or none, a whole part, and
-- perhaps the mark and digits; where these are, the whole part may be missing.
unfoldable pub is_number : Mark → List ℕ → Bool
is_number mark cell =
    if has_mark mark (unsigned cell)
    then (length (whole_part mark (unsigned cell)) == 0 || is_whole_part mark (whole_part mark (unsigned cell)))
    && is_digits (decimals mark (unsigned cell))
    else is_whole_part mark (unsigned cell)

-- the byte is the digit 0
abbrev pub is_zero : ℕ → Bool
is_zero b = b == 48

-- how many zeros end the decimals
unfoldable pub end_zeros : Mark → List ℕ → ℕ
end_zeros mark text = suffix_len is_zero (decimals mark text)

-- The number that the cell says: its digits, without the zeros that end its decimals, as one whole
-- number, and how many of them are decimals.
unfoldable pub number_value : Mark → List ℕ → Decimal
number_value mark cell = record {
  mantissa = signed_value (is_negative cell)
      (digits_sum (filter is_ascii_digit (take (length (unsigned cell) - end_zeros mark (unsigned cell)) (unsigned cell))));
  places = length (decimals mark (unsigned cell)) - end_zeros mark (unsigned cell);
}

-- The cell is another number under each mark: one mark stands in it, which may separate thousands
-- or decimals, as in 1.500. Nobody writes a 0 before thousands.
unfoldable pub is_either : List ℕ → Bool
is_either cell =
    is_number Point cell && is_number Comma cell && list_any is_mark (unsigned cell) && not (starts_with nat_eq (unsigned cell) (48 ∷ []))

-- the mark that stands in the text, if one does
unfoldable pub mark_inside : List ℕ → Option Mark
mark_inside text = if has_mark Point text then Some Point else if has_mark Comma text then Some Comma else None

-- The mark that a cell shows: the one under which alone it is a number; if it is one under both,
-- the one in it, unless it is another number under each.
unfoldable pub mark_in : List ℕ → Option Mark
mark_in cell =
    if is_either cell then None
    else if is_number Point cell && is_number Comma cell then mark_inside (unsigned cell)
    else if is_number Point cell then Some Point
    else if is_number Comma cell then Some Comma
    else None

-- no mark is settled, and the cell is another number under each
unfoldable pub is_open : Option Mark → List ℕ → Bool
is_open mark cell = is_none mark && is_either cell

-- the cell says this number, if this mark is settled; a point, if none is
pub record IsNumber (mark : Option Mark) (cell : List ℕ) (number : Decimal) : Type 0 where
  pub settled : is_open mark cell ≡ false
  pub is : is_number (unwrap_or mark Point) cell ≡ true
  pub value : number ≡ number_value (unwrap_or mark Point) cell

-- why a cell, which is no number under this mark, is none
unfoldable pub text_fault : Mark → List ℕ → NumberFault
text_fault mark cell =
    if length cell == 0 then Empty
    else if is_exponent cell then Exponent
    else if is_number (other mark) cell then OtherMark
    else NoNumber

-- Why a cell isn't read: it may be either of two numbers; it is a number whose digits, without the
-- zeros that end its decimals, don't fit 128 bits; or it is no number.
abbrev pub IsFault : Option Mark → List ℕ → NumberFault → Type 0
IsFault mark cell fault =
    ((fault ≡ Either) × (is_open mark cell ≡ true))
    ⊎ ((fault ≡ TooLong) × (is_open mark cell ≡ false) × (is_number (unwrap_or mark Point) cell ≡ true)
    × ¬ (FitsSigned w128 ((number_value (unwrap_or mark Point) cell).mantissa)))
    ⊎ ((fault ≡ text_fault (unwrap_or mark Point) cell) × (is_open mark cell ≡ false)
    × (is_number (unwrap_or mark Point) cell ≡ false))

-- the whole number fits 128 bits, one of which is its sign
abbrev pub fits_128 : ℤ → Bool
fits_128 z = int_le (neg_ℤ (pos (2 ^ 127))) z && int_lt z (pos (2 ^ 127))

-- What the cell says, if this mark is settled, or a point, if none is: its number, or why it isn't
-- read.
unfoldable pub read_number : Option Mark → List ℕ → Result Decimal NumberFault
read_number mark cell =
    if is_open mark cell then Err Either
    else if not (is_number (unwrap_or mark Point) cell) then Err (text_fault (unwrap_or mark Point) cell)
    else if fits_128 ((number_value (unwrap_or mark Point) cell).mantissa) then Ok (number_value (unwrap_or mark Point) cell)
    else Err TooLong
