-- The cells of a list, and those of a matrix.
-- Source: own
use Rattle.std.specs.Prelude.{ℕ, ◌-◌, Bool, true, false, not, ◌&&◌, ◌||◌, if◌then◌else◌, List, [], length, map, filter, codes, Option, Some, None}
use Rattle.std.specs.List.{flat_map, list_any, range_with_len}
use Rattle.std.specs.Str.{str_eq_ignore_ascii_case}
use Rattle.mcf_table.specs.Heads.{heads}
use Rattle.mcf_table.specs.Texts.{Record, is_filled}
use Rattle.mcf_table.specs.declared.heads.CellPlace.{CellPlace}
use Rattle.mcf_roster_reading.specs.Cells.{at_place, cell_in, rows}
use Rattle.mcf_roster_reading.specs.Columns.{column_or_first, head_word, is_list, place_under}
use Rattle.mcf_roster_reading.specs.declared.kinds.Head.TheVariants.{Who, What, Cost, Takes, Needs}
use Rattle.mcf_roster_reading.specs.declared.layouts.PairAt.{PairAt}
use Rattle.mcf_roster_reading.specs.declared.layouts.SaidAt.{SaidAt}

-- The cells that are read: whether a name may stand only once, or else a pair; the cells that name
-- persons, and those that name things; those that say how many a person takes, and how many a thing
-- needs, each with the cell of that name; and the three cells of each pair.
pub record Layout : Type 0 where
  pub names_once : Bool
  pub persons : List CellPlace
  pub things : List CellPlace
  pub takes : List SaidAt
  pub needs : List SaidAt
  pub pairs : List PairAt

-- a cell of a row that says how many the name in another may have
abbrev pub said_at : ℕ → ℕ → ℕ → SaidAt
said_at name place row = record { name = at_place name row; cell = at_place place row }

-- the cells of a column that say how many the names of another may have; none without that column
abbrev pub said_cells : ℕ → Option ℕ → List ℕ → List SaidAt
said_cells name None rows = []
said_cells name (Some place) rows = map (said_at name place) rows

-- ---- lists: each row has a pair

-- the cells of a row's pair
abbrev pub list_pair : ℕ → ℕ → ℕ → ℕ → PairAt
list_pair who what cost row = record { who = at_place who row; what = at_place what row; cost = at_place cost row }

-- the cells of a list
abbrev pub list_layout : List Record → Layout
list_layout records =
    let who = column_or_first records Who in
    let what = column_or_first records What in
    let cost = column_or_first records Cost in
    record {
      names_once = false;
      persons = map (at_place who) (rows records);
      things = map (at_place what) (rows records);
      takes = said_cells who (place_under records Takes) (rows records);
      needs = said_cells what (place_under records Needs) (rows records);
      pairs = map (list_pair who what cost) (rows records);
    }

-- ---- matrices: each row but `needs` is that of a person, each column but the first and `takes`
-- that of a thing

-- the row says what things need: its first cell is `needs`, in either case
abbrev pub is_needs_row : List Record → ℕ → Bool
is_needs_row records row = str_eq_ignore_ascii_case (cell_in records (at_place 0 row)) (codes "needs")

-- the rows of persons
abbrev pub person_rows : List Record → List ℕ
person_rows records = filter (λ row. not (is_needs_row records row)) (rows records)

-- the rows that say what things need
abbrev pub needs_rows : List Record → List ℕ
needs_rows records = filter (is_needs_row records) (rows records)

-- a cell of the column isn't empty in one of the rows
abbrev pub has_filled : List Record → List ℕ → ℕ → Bool
has_filled records rows place = list_any (λ row. is_filled (cell_in records (at_place place row))) rows

-- the column is that of a thing: its head isn't `takes`, and it isn't empty, or a cell below isn't
abbrev pub is_thing : List Record → ℕ → Bool
is_thing records place =
    not (str_eq_ignore_ascii_case (cell_in records (at_place place 0)) (head_word Takes))
    && (is_filled (cell_in records (at_place place 0)) || has_filled records (rows records) place)

-- the columns of things
abbrev pub thing_places : List Record → List ℕ
thing_places records = filter (is_thing records) (range_with_len 1 (length (heads records) - 1))

-- a cell of the row of the heads
abbrev pub head_at : ℕ → CellPlace
head_at place = at_place place 0

-- a cell that says how many persons the thing in the head of its column needs
abbrev pub need_at : ℕ → ℕ → SaidAt
need_at row place = record { name = head_at place; cell = at_place place row }

-- the cells of the pair of a row's person and a column's thing
abbrev pub matrix_pair : ℕ → ℕ → PairAt
matrix_pair row place = record { who = at_place 0 row; what = head_at place; cost = at_place place row }

-- the cells of a row for each of these columns
abbrev pub row_needs : List ℕ → ℕ → List SaidAt
row_needs places row = map (need_at row) places

-- the pairs of a row's person
abbrev pub row_pairs : List ℕ → ℕ → List PairAt
row_pairs places row = map (matrix_pair row) places

-- the cells of a matrix
abbrev pub matrix_layout : List Record → Layout
matrix_layout records =
    record {
      names_once = true;
      persons = map (at_place 0) (person_rows records);
      things = map head_at (thing_places records);
      takes = said_cells 0 (place_under records Takes) (person_rows records);
      needs = flat_map (row_needs (thing_places records)) (needs_rows records);
      pairs = flat_map (row_pairs (thing_places records)) (person_rows records);
    }

-- the cells of a table
abbrev pub layout_of : List Record → Layout
layout_of records = if is_list records then list_layout records else matrix_layout records
