-- The row of the heads, which may stand below some lines of text.
-- Source: own
use Rattle.std.specs.Prelude.{ℕ, ◌+◌, Bool, List, take, drop, position, unwrap_or}
use Rattle.std.specs.List.{list_all, list_any}
use Rattle.std.specs.Str.{str_eq_ignore_ascii_case}
use Rattle.mcf_table.specs.Texts.{Record}

-- a cell is this head, where an ASCII letter is the same in either case
abbrev pub has_cell : List ℕ → List (List ℕ) → Bool
has_cell head cells = list_any (λ cell. str_eq_ignore_ascii_case cell head) cells

-- the row has all these heads
abbrev pub has_heads : List (List ℕ) → Record → Bool
has_heads wanted row = list_all (λ head. has_cell head row.cells) wanted

-- the row of the heads: the first of the ten rows from this one on that has all the wanted heads,
-- or this one if none of them has
abbrev pub head_row : ℕ → List (List ℕ) → List Record → ℕ
head_row from wanted records = from + unwrap_or (position (has_heads wanted) (take 10 (drop from records))) 0
