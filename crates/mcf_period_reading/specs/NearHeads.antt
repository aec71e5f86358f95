-- Columns that aren't read because their heads are only nearly those about periods.
-- Source: own
use Rattle.std.specs.Prelude.{ℕ, Bool, not, ◌&&◌, if◌then◌else◌, List, [], ◌∷◌, length, find, Option, Some, None}
use Rattle.std.specs.List.{flat_map, list_any, range_with_len}
use Rattle.std.specs.Option.{option_or}
use Rattle.std.specs.Str.{bytes_eq, str_eq_ignore_ascii_case}
use Rattle.mcf_reading.specs.declared.locations.Table.{Table}
use Rattle.mcf_reading.specs.declared.locations.Table.TheVariants.{Places, Routes}
use Rattle.mcf_table.specs.Heads.{head_at, heads, is_there}
use Rattle.mcf_table.specs.NearHeads.{head_letters, is_near, meant_digits, meant_word}
use Rattle.mcf_table.specs.Texts.{Record, is_filled}
use Rattle.mcf_period_reading.specs.PeriodHeads.{column_under, head_text, heads_of}
use Rattle.mcf_period_reading.specs.declared.heads.PeriodHead.{PeriodHead}
use Rattle.mcf_period_reading.specs.declared.heads.PeriodHead.TheVariants.{Period}
use Rattle.mcf_period_reading.specs.declared.kinds.PeriodFault.{PeriodFault}
use Rattle.mcf_period_reading.specs.declared.kinds.PeriodKind.TheVariants.{NearHead}

-- the heads of a table that titles may nearly be: all but `lead`, since `load`, `read` and `head`
-- are everyday words
abbrev pub meant_heads : Table → List PeriodHead
meant_heads Places = heads_of Places
meant_heads Routes = Period ∷ []

-- the word of a head: its letters, as `keepmost`
abbrev pub head_word : PeriodHead → List ℕ
head_word head = head_letters (head_text head)

-- a title is this head, where an ASCII letter is the same in either case
abbrev pub is_title_of : List ℕ → PeriodHead → Bool
is_title_of title head = str_eq_ignore_ascii_case title (head_text head)

-- the word is the head's
abbrev pub is_word_of : List ℕ → PeriodHead → Bool
is_word_of word head = bytes_eq word (head_word head)

-- the word is nearly the head's, and no column has the head
abbrev pub is_nearly : List Record → List ℕ → PeriodHead → Bool
is_nearly records word head = is_near word (head_word head) && not (is_there (column_under records head))

-- the head that a word means: the one whose word it is; or else the first whose word it nearly is,
-- if no column has that head
abbrev pub meant_head : Table → List Record → List ℕ → Option PeriodHead
meant_head table records word =
    option_or (find (is_word_of word) (meant_heads table)) (find (is_nearly records word) (meant_heads table))

-- the head that a title means, which has no digits at its end and isn't a head itself
abbrev pub title_head : Table → List Record → List ℕ → Option PeriodHead
title_head table records title =
    if is_filled (meant_digits title) then None
    else if list_any (is_title_of title) (heads_of table) then None
    else meant_head table records (meant_word title)

-- the fault of the title at a place, from 0, that means this head
abbrev pub meant_fault : Table → ℕ → Option PeriodHead → List PeriodFault
meant_fault table place None = []
meant_fault table place (Some head) = record { table = table; row = 0; head = head; kind = NearHead place } ∷ []

-- the fault of a column's title; places are counted from 0
abbrev pub near_fault : Table → List Record → ℕ → List PeriodFault
near_fault table records place = meant_fault table place (title_head table records (head_at records place))

-- the faults of all titles that mean a head and aren't one, column by column
abbrev pub near_faults : Table → List Record → List PeriodFault
near_faults table records = flat_map (near_fault table records) (range_with_len 0 (length (heads records)))
