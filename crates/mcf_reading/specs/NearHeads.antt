-- Columns that aren't read because their heads are only nearly those that are.
-- Source: own
use Rattle.std.specs.Prelude.{ℕ, ◌+◌, Bool, true, false, not, ◌&&◌, ◌||◌, if◌then◌else◌, List, length, max, find, Option, Some, None, option_map}
use Rattle.std.specs.List.{flat_map, list_any, range_with_len}
use Rattle.std.specs.Str.{bytes_eq, str_eq_ignore_ascii_case}
use Rattle.mcf_table.specs.Heads.{head_at, heads, is_there}
use Rattle.mcf_table.specs.NearHeads.{head_number, is_near, meant_digits, meant_word}
use Rattle.mcf_table.specs.Texts.{Record, is_filled}
use Rattle.mcf_reading.specs.Faults.{told}
use Rattle.mcf_reading.specs.HeadTexts.{column_under, first_heads, further_count, head_text, head_word, read_heads}
use Rattle.mcf_reading.specs.declared.kinds.Fault.{Fault}
use Rattle.mcf_reading.specs.declared.kinds.FaultKind.{FaultKind}
use Rattle.mcf_reading.specs.declared.kinds.FaultKind.TheVariants.{NearHead, Without}
use Rattle.mcf_reading.specs.declared.locations.ColumnAt.TheVariants.{Placed}
use Rattle.mcf_reading.specs.declared.locations.Head.{Head}
use Rattle.mcf_reading.specs.declared.locations.Head.TheVariants.{Least, Most, Cost}
use Rattle.mcf_reading.specs.declared.locations.Location.{Location}
use Rattle.mcf_reading.specs.declared.locations.Table.{Table}
use Rattle.mcf_reading.specs.declared.locations.Table.TheVariants.{Routes}

-- a title is this head, where an ASCII letter is the same in either case
abbrev pub is_title_of : List ℕ → Head → Bool
is_title_of title head = str_eq_ignore_ascii_case title (head_text head)

-- ---- the head that is meant

-- the head is that of a limit or of its cost
abbrev pub is_limit : Head → Bool
is_limit Least = true
is_limit (Most step) = true
is_limit (Cost step) = true
is_limit head = false

-- the head may have these digits at its end: none, or it is that of a limit or of its cost
abbrev pub may_have : List ℕ → Head → Bool
may_have digits head = not (is_filled digits) || is_limit head

-- the head with these digits at its end: that of a step, in the table of routes
abbrev pub numbered : Table → List ℕ → Head → Head
numbered Routes digits (Most step) = Most (max (head_number digits) 1)
numbered Routes digits (Cost step) = Cost (max (head_number digits) 1)
numbered table digits head = head

-- the word is the head's
abbrev pub is_word_of : List ℕ → List ℕ → Head → Bool
is_word_of word digits head = may_have digits head && bytes_eq word (head_word head)

-- no column has the head with these digits
abbrev pub is_missing : Table → List Record → List ℕ → Head → Bool
is_missing table records digits head = not (is_there (column_under records (numbered table digits head)))

-- the word is nearly the head's, and no column has the head
abbrev pub is_nearly : Table → List Record → List ℕ → List ℕ → Head → Bool
is_nearly table records word digits head =
    may_have digits head && (is_near word (head_word head) && is_missing table records digits head)

-- the first, or else the second
abbrev pub or_else : Option Head → Option Head → Option Head
or_else (Some head) other = Some head
or_else None other = other

-- The head of the first ones that a word with digits at its end means: the one whose word it is; or
-- else the first whose word it nearly is, if no column has that head.
abbrev pub meant_first : Table → List Record → List ℕ → List ℕ → Option Head
meant_first table records word digits =
    or_else (find (is_word_of word digits) (first_heads table)) (find (is_nearly table records word digits) (first_heads table))

-- the head that a title means, if it means one
abbrev pub meant_head : Table → List Record → List ℕ → Option Head
meant_head table records title =
    option_map (numbered table (meant_digits title)) (meant_first table records (meant_word title) (meant_digits title))

-- ---- the faults

-- What is wrong with a title that isn't read, and means this head: it is that of a step, and no
-- column has the most of an earlier step, or of this one; or it is nearly the head.
abbrev pub near_kind : List Record → List ℕ → Head → FaultKind
near_kind records title head = if is_title_of title head then Without (Most (further_count records + 2)) else NearHead head

-- what is wrong with a title that means this head, if it isn't read
abbrev pub unread_kind : List Head → List Record → List ℕ → Head → Option FaultKind
unread_kind read records title head = if list_any (is_title_of title) read then None else Some (near_kind records title head)

-- what is wrong with a title that means this head, if it means one
abbrev pub title_kind : List Head → List Record → List ℕ → Option Head → Option FaultKind
title_kind read records title None = None
title_kind read records title (Some head) = unread_kind read records title head

-- the cell of a column in the row of the heads
abbrev pub head_cell : Table → ℕ → Location
head_cell table place = record { table = table; row = 0; column = Placed place }

-- the fault of a column's title; places are counted from 0
abbrev pub near_fault : Table → List Record → ℕ → List Fault
near_fault table records place =
    let title = head_at records place in
    told (head_cell table place) (title_kind (read_heads table records) records title (meant_head table records title))

-- the faults of all titles that mean a head and aren't read, column by column
abbrev pub near_faults : Table → List Record → List Fault
near_faults table records = flat_map (near_fault table records) (range_with_len 0 (length (heads records)))
