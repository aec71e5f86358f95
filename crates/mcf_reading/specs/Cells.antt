-- The cells of a row as amounts, limits and answers.
-- Source: own
use Rattle.std.specs.Prelude.{ℕ, ◌-◌, Bool, not, ◌||◌, if◌then◌else◌, List, [], ◌∷◌, length, Option, Some, None, Result, Ok, Err, option_map, pos, slice_index_or, codes}
use Rattle.std.specs.List.{list_any, range_with_len}
use Rattle.std.specs.Str.{bytes_eq, str_eq_ignore_ascii_case}
use Rattle.mcf_decimal.specs.Numbers.{read_number}
use Rattle.mcf_decimal.specs.declared.decimal.Decimal.{Decimal}
use Rattle.mcf_decimal.specs.declared.fault.NumberFault.{NumberFault}
use Rattle.mcf_decimal.specs.declared.mark.Mark.{Mark}
use Rattle.mcf_table.specs.Texts.{Record, is_filled}
use Rattle.mcf_reading.specs.declared.kinds.FaultKind.{FaultKind}
use Rattle.mcf_reading.specs.declared.kinds.FaultKind.TheVariants.{Number, NotYesNo}

-- the rows below the heads
abbrev pub rows : List Record → List ℕ
rows records = range_with_len 1 (length records - 1)

-- the cell of a row in a column; empty if the table doesn't have the column
abbrev pub cell_at : List (List ℕ) → Option ℕ → List ℕ
cell_at cells None = []
cell_at cells (Some place) = slice_index_or cells place []

-- the decimal 0
abbrev pub zero_decimal : Decimal
zero_decimal = record { mantissa = pos 0; places = 0 }

-- an amount: 0 if the cell is empty
unfoldable pub read_amount : Option Mark → List ℕ → Result Decimal NumberFault
read_amount mark cell = if is_filled cell then read_number mark cell else Ok zero_decimal

-- the cell says that there is no limit: it is empty, `inf` in either case, or ∞ in UTF-8
unfoldable pub is_no_limit : List ℕ → Bool
is_no_limit cell =
    not (is_filled cell) || (str_eq_ignore_ascii_case cell (codes "inf") || bytes_eq cell (226 ∷ 136 ∷ 158 ∷ []))

-- a number as a limit
abbrev pub as_limit : Result Decimal NumberFault → Result (Option Decimal) NumberFault
as_limit (Ok number) = Ok (Some number)
as_limit (Err fault) = Err fault

-- a limit, or none
unfoldable pub read_limit : Option Mark → List ℕ → Result (Option Decimal) NumberFault
read_limit mark cell = if is_no_limit cell then Ok None else as_limit (read_number mark cell)

-- a penalty, or none if the cell is empty
unfoldable pub read_penalty : Option Mark → List ℕ → Result (Option Decimal) NumberFault
read_penalty mark cell = if is_filled cell then as_limit (read_number mark cell) else Ok None

-- the number; 0 if the cell wasn't read
abbrev pub amount : Result Decimal NumberFault → Decimal
amount (Ok number) = number
amount (Err fault) = zero_decimal

-- the limit; a limit of 0 if the cell wasn't read
abbrev pub limit : Result (Option Decimal) NumberFault → Option Decimal
limit (Ok most) = most
limit (Err fault) = Some zero_decimal

-- why a cell wasn't read as a number
abbrev pub number_kind : Option NumberFault → Option FaultKind
number_kind fault = option_map Number fault

-- the words that say yes
abbrev pub yes_words : List (List ℕ)
yes_words =
    codes "yes" ∷ codes "y" ∷ codes "x" ∷ codes "1" ∷ codes "true" ∷ codes "ja" ∷ codes "j" ∷ []

-- the words that say no; an empty cell does, too
abbrev pub no_words : List (List ℕ)
no_words = [] ∷ codes "no" ∷ codes "n" ∷ codes "0" ∷ codes "false" ∷ codes "nein" ∷ []

-- the cell is one of these words, where an ASCII letter is the same in either case
abbrev pub is_among : List (List ℕ) → List ℕ → Bool
is_among words cell = list_any (str_eq_ignore_ascii_case cell) words

-- the cell says yes
unfoldable pub is_yes : List ℕ → Bool
is_yes cell = is_among yes_words cell

-- the cell says neither yes nor no
unfoldable pub is_unclear : List ℕ → Bool
is_unclear cell = not (is_yes cell || is_among no_words cell)

-- why a cell isn't read as yes or no
abbrev pub way_kind : List ℕ → Option FaultKind
way_kind cell = if is_unclear cell then Some NotYesNo else None
