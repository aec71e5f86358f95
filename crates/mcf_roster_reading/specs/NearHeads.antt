-- Columns of a list that aren't read because their heads are only nearly those that are.
-- Source: own
use Rattle.std.specs.Prelude.{ℕ, Bool, true, false, not, ◌&&◌, ◌||◌, if◌then◌else◌, List, [], length, find, Option, Some, None}
use Rattle.std.specs.List.{flat_map, list_any, range_with_len}
use Rattle.std.specs.Str.{bytes_eq, str_eq_ignore_ascii_case}
use Rattle.mcf_table.specs.Heads.{head_at, heads, is_there}
use Rattle.mcf_table.specs.NearHeads.{is_near, meant_digits, meant_word}
use Rattle.mcf_table.specs.Texts.{Record, is_filled}
use Rattle.mcf_roster_reading.specs.Cells.{at_place}
use Rattle.mcf_roster_reading.specs.Columns.{column_under, head_word, is_list, list_heads}
use Rattle.mcf_roster_reading.specs.Faults.{told}
use Rattle.mcf_roster_reading.specs.declared.kinds.Fault.{Fault}
use Rattle.mcf_roster_reading.specs.declared.kinds.FaultKind.{FaultKind}
use Rattle.mcf_roster_reading.specs.declared.kinds.FaultKind.TheVariants.{NearHead}
use Rattle.mcf_roster_reading.specs.declared.kinds.Head.{Head}
use Rattle.mcf_roster_reading.specs.declared.kinds.Head.TheVariants.{Cost}
use Rattle.mcf_roster_reading.specs.declared.kinds.Location.TheVariants.{Cell}

-- a title is this head, where an ASCII letter is the same in either case
abbrev pub is_title_of : List ℕ → Head → Bool
is_title_of title head = str_eq_ignore_ascii_case title (head_word head)

-- the head is that of costs
abbrev pub is_cost : Head → Bool
is_cost Cost = true
is_cost head = false

-- the head may have these digits at its end: none, or it is that of costs
abbrev pub may_have : List ℕ → Head → Bool
may_have digits head = not (is_filled digits) || is_cost head

-- the word is the head's
abbrev pub is_word_of : List ℕ → List ℕ → Head → Bool
is_word_of word digits head = may_have digits head && bytes_eq word (head_word head)

-- the word is nearly the head's, and no column has the head
abbrev pub is_nearly : List Record → List ℕ → List ℕ → Head → Bool
is_nearly records word digits head =
    may_have digits head && (is_near word (head_word head) && not (is_there (column_under records head)))

-- the first, or else the second
abbrev pub or_else : Option Head → Option Head → Option Head
or_else (Some head) other = Some head
or_else None other = other

-- The head that a word with digits at its end means: the one whose word it is; or else the first
-- whose word it nearly is, if no column has that head.
abbrev pub meant_head : List Record → List ℕ → List ℕ → Option Head
meant_head records word digits =
    or_else (find (is_word_of word digits) list_heads) (find (is_nearly records word digits) list_heads)

-- what is wrong with a title that means this head: nothing, if it is a head
abbrev pub title_kind : List ℕ → Option Head → Option FaultKind
title_kind title None = None
title_kind title (Some head) = if list_any (is_title_of title) list_heads then None else Some (NearHead head)

-- the fault of a column's title; places are counted from 0
abbrev pub near_fault : List Record → ℕ → List Fault
near_fault records place =
    let title = head_at records place in
    told (Cell (at_place place 0)) (title_kind title (meant_head records (meant_word title) (meant_digits title)))

-- the faults of all titles of a list that mean a head and aren't one, column by column
abbrev pub near_faults : List Record → List Fault
near_faults records =
    if is_list records then flat_map (near_fault records) (range_with_len 0 (length (heads records))) else []
