-- Cells, and the rows below the heads.
-- Source: own
use Rattle.std.specs.Prelude.{ℕ, ◌-◌, Bool, not, ◌||◌, List, [], ◌∷◌, length, codes, slice_index_or}
use Rattle.std.specs.List.{range_with_len}
use Rattle.std.specs.Str.{bytes_eq, str_eq_ignore_ascii_case}
use Rattle.mcf_table.specs.Heads.{cells_of}
use Rattle.mcf_table.specs.Texts.{Record, is_filled}
use Rattle.mcf_table.specs.declared.heads.CellPlace.{CellPlace}

-- the rows below the heads
abbrev pub rows : List Record → List ℕ
rows records = range_with_len 1 (length records - 1)

-- the place in a row
abbrev pub at_place : ℕ → ℕ → CellPlace
at_place place row = record { row = row; place = place }

-- the cell at a place; empty if there is none
abbrev pub cell_in : List Record → CellPlace → List ℕ
cell_in records at = slice_index_or (cells_of records at.row) at.place []

-- the cell forbids a pair: it is empty, an x in either case, a hyphen, an en dash or an em dash
abbrev pub is_forbidden : List ℕ → Bool
is_forbidden cell =
    not (is_filled cell)
    || (str_eq_ignore_ascii_case cell (codes "x")
    || (bytes_eq cell (codes "-") || (bytes_eq cell (226 ∷ 128 ∷ 147 ∷ []) || bytes_eq cell (226 ∷ 128 ∷ 148 ∷ []))))
