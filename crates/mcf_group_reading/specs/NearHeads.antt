-- Columns that aren't read because their heads are only nearly those that are.
-- Source: own
use Rattle.std.specs.Prelude.{ℕ, Bool, not, ◌&&◌, if◌then◌else◌, List, length, find, Option, Some, None}
use Rattle.std.specs.List.{flat_map, list_any, range_with_len}
use Rattle.std.specs.Option.{option_or}
use Rattle.std.specs.Str.{bytes_eq, str_eq_ignore_ascii_case}
use Rattle.mcf_roster_reading.specs.Cells.{at_place}
use Rattle.mcf_table.specs.Heads.{head_at, heads}
use Rattle.mcf_table.specs.NearHeads.{is_near, meant_digits, meant_word}
use Rattle.mcf_table.specs.Texts.{Record, is_filled}
use Rattle.mcf_group_reading.specs.Faults.{told}
use Rattle.mcf_group_reading.specs.GroupHeads.{all_heads, has_head, head_word}
use Rattle.mcf_group_reading.specs.declared.kinds.Fault.{Fault}
use Rattle.mcf_group_reading.specs.declared.kinds.FaultKind.{FaultKind}
use Rattle.mcf_group_reading.specs.declared.kinds.FaultKind.TheVariants.{NearHead}
use Rattle.mcf_group_reading.specs.declared.kinds.Head.{Head}
use Rattle.mcf_group_reading.specs.declared.kinds.Location.TheVariants.{Cell}

-- a title is this head, where an ASCII letter is the same in either case
abbrev pub is_title_of : List ℕ → Head → Bool
is_title_of title head = str_eq_ignore_ascii_case title (head_word head)

-- the word is the head's
abbrev pub is_word_of : List ℕ → Head → Bool
is_word_of word head = bytes_eq word (head_word head)

-- the word is nearly the head's, and no column has the head
abbrev pub is_nearly : List Record → List ℕ → Head → Bool
is_nearly records word head = is_near word (head_word head) && not (has_head records head)

-- the head that a word means: the one whose word it is; or else the first whose word it nearly is,
-- if no column has that head
abbrev pub meant_head : List Record → List ℕ → Option Head
meant_head records word = option_or (find (is_word_of word) all_heads) (find (is_nearly records word) all_heads)

-- the head that a title means, which has no digits at its end
abbrev pub title_head : List Record → List ℕ → Option Head
title_head records title = if is_filled (meant_digits title) then None else meant_head records (meant_word title)

-- what is wrong with a title that means this head: nothing, if it is a head
abbrev pub title_kind : List ℕ → Option Head → Option FaultKind
title_kind title None = None
title_kind title (Some head) = if list_any (is_title_of title) all_heads then None else Some (NearHead head)

-- the fault of a column's title; places are counted from 0
abbrev pub near_fault : List Record → ℕ → List Fault
near_fault records place =
    told (Cell (at_place place 0)) (title_kind (head_at records place) (title_head records (head_at records place)))

-- the faults of all titles that mean a head and aren't one, column by column
abbrev pub near_faults : List Record → List Fault
near_faults records = flat_map (near_fault records) (range_with_len 0 (length (heads records)))
