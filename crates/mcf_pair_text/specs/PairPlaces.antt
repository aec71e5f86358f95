-- Where the parts of a table of persons and things stand.
-- Source: own
use Rattle.std.specs.Prelude.{ℕ, suc, ◌-◌, Bool, ◌&&◌, if◌then◌else◌, List, [], codes, decimal, drop, map, slice_index_or, unwrap_or, Option, Some, None}
use Rattle.mcf_answer_rows.specs.AnswerRows.{line_at}
use Rattle.mcf_names.specs.Names.{name_at, number_of}
use Rattle.mcf_roster_reading.specs.Cells.{at_place, cell_in}
use Rattle.mcf_roster_reading.specs.Columns.{is_list}
use Rattle.mcf_table.specs.Heads.{column_of, only_place}
use Rattle.mcf_table.specs.Texts.{Record, is_filled}
use Rattle.mcf_table.specs.declared.heads.CellPlace.{CellPlace}
use Rattle.mcf_pair_text.specs.declared.pages.Page.{Page}

-- the rows of a table, and whether it is a list; otherwise it is a matrix
pub record Sheet : Type 0 where
  pub rows : List Record
  pub listed : Bool

-- the table of these rows
abbrev pub sheet_of : List Record → Sheet
sheet_of records = record { rows = records; listed = is_list records }

-- the table of a page
abbrev pub sheet_in : Page → Sheet
sheet_in page = record { rows = page.records.now; listed = page.listed }

-- ---- columns

-- the place of the column with a head; the first column if it isn't just one
abbrev pub place_or_first : List ℕ → List Record → ℕ
place_or_first head records = unwrap_or (only_place (column_of head records)) 0

-- the column that names persons: that of `who` in a list, the first one of a matrix
abbrev pub person_column : Sheet → Option ℕ
person_column s = Some (if s.listed then place_or_first (codes "who") s.rows else 0)

-- the column that names things: that of `what` in a list; the heads of a matrix name them
abbrev pub thing_column : Sheet → Option ℕ
thing_column s = if s.listed then Some (place_or_first (codes "what") s.rows) else None

-- the head of the column of a cell
abbrev pub head_over : List Record → CellPlace → List ℕ
head_over records at = cell_in records (at_place at.place 0)

-- the column of a cell: its head in a list, if it has one, or else its number, from 1
abbrev pub column_text : Sheet → CellPlace → List ℕ
column_text s at =
    if s.listed && is_filled (head_over s.rows at) then head_over s.rows at else decimal (suc at.place)

-- the number of a matrix's column, from 1; nothing in a list, whose rows have one pair each
abbrev pub pair_column : Sheet → CellPlace → List ℕ
pair_column s at = if s.listed then [] else decimal (suc at.place)

-- ---- rows

-- the cell of a row in a column
abbrev pub cell_of : ℕ → Record → List ℕ
cell_of place r = slice_index_or r.cells place []

-- the cells of a column below the heads; none without that column
abbrev pub names_under : List Record → Option ℕ → List (List ℕ)
names_under records None = []
names_under records (Some place) = map (cell_of place) (drop 1 records)

-- the row below the heads in which a name stands first, if these are the names there; that of the
-- heads if it is none of them
abbrev pub row_of : List (List ℕ) → List ℕ → ℕ
row_of names name = unwrap_or (number_of name names) 0

-- the line of that row
abbrev pub line_in : List Record → List (List ℕ) → List ℕ → List ℕ
line_in records names name = decimal (line_at records (row_of names name))

-- the line on which a name stands first in a column; that of the heads if it doesn't stand there
unfoldable pub name_line : List Record → Option ℕ → List ℕ → List ℕ
name_line records column name = line_in records (names_under records column) name

-- the name of the person or the thing with this number, from 1
abbrev pub numbered : List (List ℕ) → ℕ → List ℕ
numbered names number = name_at names (number - 1)
