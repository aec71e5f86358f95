-- How many a person takes, or a thing needs, as a cell says it.
-- Source: own
use Rattle.std.specs.Prelude.{ℕ, ◌==◌, nat_le, nat_lt, nat_eq, Bool, false, not, ◌&&◌, if◌then◌else◌, List, [], ◌∷◌, length, codes, take, drop, Option, Some, None, option_map}
use Rattle.std.specs.List.{starts_with}
use Rattle.mcf_table.specs.Texts.{is_filled}
use Rattle.mcf_text.specs.Leading.{digit_count}
use Rattle.mcf_text.specs.Whole.{digits_sum}
use Rattle.mcf_roster_reading.specs.declared.kinds.FaultKind.{FaultKind}
use Rattle.mcf_roster_reading.specs.declared.kinds.FaultKind.TheVariants.{NoRange, TwoRanges}
use Rattle.mcf_roster_reading.specs.declared.sayings.Saying.{Saying}
use Rattle.mcf_roster_reading.specs.declared.sayings.Saying.TheVariants.{Number, Range}

-- the number that the bytes write, if they are digits, of which at most eighteen are read
abbrev pub numeral : List ℕ → Option ℕ
numeral bytes = if digit_count bytes == length bytes && nat_lt 0 (digit_count bytes) then Some (digits_sum bytes) else None

-- the bytes begin with a space
abbrev pub begins_space : List ℕ → Bool
begins_space [] = false
begins_space (b ∷ bs) = b == 32

-- the bytes without the spaces in front
abbrev pub unspaced : List ℕ → List ℕ
unspaced [] = []
unspaced (b ∷ bs) = if b == 32 then unspaced bs else b ∷ bs

-- how long the separator of a range is with which the bytes begin: a hyphen, an en dash, two
-- points, `to` or `bis`; 0 if they begin with none
abbrev pub separator_len : List ℕ → ℕ
separator_len bytes =
    if starts_with nat_eq bytes (codes "-") then 1
    else if starts_with nat_eq bytes (226 ∷ 128 ∷ 147 ∷ []) then 3
    else if starts_with nat_eq bytes (codes "..") then 2
    else if starts_with nat_eq bytes (codes "to") then 2
    else if starts_with nat_eq bytes (codes "bis") then 3
    else 0

-- what follows the separator, without spaces in front; nothing if no separator stands in front
abbrev pub after_separator : List ℕ → List ℕ
after_separator bytes = if separator_len bytes == 0 then [] else unspaced (drop (separator_len bytes) bytes)

-- a single number
abbrev pub single : Option ℕ → Option Saying
single number = option_map Number number

-- a range whose first number isn't above the second
abbrev pub ranged : Option ℕ → Option ℕ → Option Saying
ranged (Some least) (Some most) = if nat_le least most then Some (Range least most) else None
ranged (Some least) None = None
ranged None most = None

-- the digits at the front of the cell
abbrev pub front : List ℕ → List ℕ
front cell = take (digit_count cell) cell

-- what follows these digits
abbrev pub rest : List ℕ → List ℕ
rest cell = drop (digit_count cell) cell

-- what a cell says: one number; or two, with a separator between them and perhaps spaces beside it
abbrev pub saying_of : List ℕ → Option Saying
saying_of cell =
    if not (is_filled (rest cell)) then single (numeral (front cell))
    else ranged (numeral (front cell)) (numeral (after_separator (unspaced (rest cell))))

-- both say the same numbers
abbrev pub is_same : Saying → Saying → Bool
is_same (Number a) (Number b) = a == b
is_same (Range a b) (Range c d) = a == c && b == d
is_same (Number a) (Range c d) = false
is_same (Range a b) (Number c) = false

-- the fault of a cell that says this, if that is said first of the same name
abbrev pub unless_same : Option Saying → Option Saying → Option FaultKind
unless_same None first = Some NoRange
unless_same (Some said) None = Some TwoRanges
unless_same (Some said) (Some first) = if is_same said first then None else Some TwoRanges

-- what is wrong with a cell, if this is said first of the same name
abbrev pub said_kind : List ℕ → Option Saying → Option FaultKind
said_kind cell first = if is_filled cell then unless_same (saying_of cell) first else None
