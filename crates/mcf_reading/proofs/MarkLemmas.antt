-- The marks of cells, one cell after another.
use Rattle.std.proofs.Common.{◌≡◌, ℕ, ◌+◌, ◌<◌, false, List, [], ◌∷◌, ◌++◌, length, map, take, get_or, refl, sym, ap, ap₂, ◌∙◌, inl, inr, arith}
use Rattle.std.specs.Prelude.{Option, Some, None, filter_map, fold, is_some, slice_get}
use Rattle.std.specs.List.{cons_option, flat_map, range_with_len}
use Rattle.std.proofs.lemmas.List.{map_more}
use Rattle.std.proofs.lemmas.Bool.{cases_Bool}
use Rattle.std.proofs.lemmas.List.Sums.{fold-append}
use Rattle.mcf_decimal.specs.Marks.{other}
use Rattle.mcf_decimal.specs.Numbers.{mark_in}
use Rattle.mcf_decimal.specs.Settled.{is_the}
use Rattle.mcf_decimal.specs.declared.mark.Mark.{Mark}
use Rattle.mcf_decimal.specs.declared.mark.Mark.TheVariants.{Point, Comma}
use Rattle.mcf_reading.specs.Private.Found.{none_shown, settled_by, with_cell, with_cells}
use Rattle.mcf_table.specs.Texts.{Record}
use Rattle.mcf_reading.specs.ShownMarks.{Located, first_mark, first_other, number_cell, number_cells, place_number_columns, route_number_columns, row_numbers, settled_mark, shown_mark, table_numbers}
use Rattle.mcf_reading.specs.declared.columns.NumberColumn.{NumberColumn}
use Rattle.mcf_reading.specs.declared.locations.Table.{Table}
use Rattle.mcf_reading.specs.declared.locations.Table.TheVariants.{Places, Routes}
use Rattle.mcf_reading.proofs.Ranges.{pieces_more}
use Rattle.mcf_reading.specs.declared.locations.Location.{Location}
use Rattle.mcf_reading.specs.declared.marks.Shown.{Shown}

abbrev pub shown_by : Option Mark → Option Location → Shown
shown_by mark found = record { mark = mark; other = found }

pub cells_none : (shown : Shown) → with_cells shown [] ≡ shown
unfolding with_cells
cells_none shown = refl

pub cells_append : (shown : Shown) (xs ys : List Located) → with_cells shown (xs ++ ys) ≡ with_cells (with_cells shown xs) ys
unfolding with_cells
cells_append shown xs ys = fold-append with_cell shown xs ys

pub cells_push : (shown : Shown) (xs : List Located) (x : Located) → with_cells shown (xs ++ x ∷ []) ≡ with_cell (with_cells shown xs) x
unfolding with_cells
cells_push shown xs x = fold-append with_cell shown xs (x ∷ [])

both_stay : (mark : Mark) (found : Location) (cells : List Located) → fold with_cell (shown_by (Some mark) (Some found)) cells ≡ shown_by (Some mark) (Some found)
both_stay mark found [] = refl
both_stay mark found (c ∷ cs) = both_stay mark found cs

one_stays : (mark : Mark) (cells : List Located) → fold with_cell (shown_by (Some mark) None) cells ≡ shown_by (Some mark) (first_other mark cells)
one_stays mark [] = refl
one_stays mark (c ∷ cs) =
    elim (cases_Bool (is_the (other mark) (mark_in c.cell))) [
      | inl is ↦ rw is (both_stay mark c.at cs)
      | inr not ↦ rw not (one_stays mark cs)
    ]

-- a mark is not the other
not_other : (mark : Mark) → is_the (other mark) (Some mark) ≡ false
not_other Point = refl
not_other Comma = refl

none_is_other : (mark : Mark) → is_the (other mark) None ≡ false
none_is_other Point = refl
none_is_other Comma = refl

-- the other mark is looked for among all cells, or among those after the first that shows a mark
abbrev other_of : Option Mark → List Located → Option Location
other_of None cells = None
other_of (Some mark) cells = first_other mark cells

skip : (c : Located) (cs : List Located) (mark : Mark) → is_the (other mark) (mark_in c.cell) ≡ false → first_other mark (c ∷ cs) ≡ first_other mark cs
skip c cs mark not = rw not refl

skip_none : (c : Located) (cs : List Located) (first : Option Mark) → mark_in c.cell ≡ None → other_of first (c ∷ cs) ≡ other_of first cs
skip_none c cs None none = refl
skip_none c cs (Some mark) none = skip c cs mark (ap (is_the (other mark)) none ∙ none_is_other mark)

first_is : (c : Located) (cs : List Located) (shown : Option Mark) → mark_in c.cell ≡ shown
    → first_mark (c ∷ cs) ≡ slice_get (cons_option shown (filter_map (λ x. mark_in x.cell) cs)) 0
first_is c cs shown is = ap (λ (m : Option Mark). slice_get (cons_option m (filter_map (λ x. mark_in x.cell) cs)) 0) is

start_at : (c : Located) (cs : List Located) (shown : Option Mark) → mark_in c.cell ≡ shown
    → fold with_cell none_shown cs ≡ shown_by (first_mark cs) (other_of (first_mark cs) cs)
    → fold with_cell none_shown (c ∷ cs) ≡ shown_by (first_mark (c ∷ cs)) (other_of (first_mark (c ∷ cs)) (c ∷ cs))
start_at c cs None is more =
    let first : first_mark (c ∷ cs) ≡ first_mark cs = first_is c cs None is in
    ap (λ (m : Option Mark). fold with_cell (shown_by m None) cs) is ∙ more
    ∙ ap (shown_by (first_mark cs)) (sym (skip_none c cs (first_mark cs) is))
    ∙ ap (λ (m : Option Mark). shown_by m (other_of m (c ∷ cs))) (sym first)
start_at c cs (Some mark) is more =
    let first : first_mark (c ∷ cs) ≡ Some mark = first_is c cs (Some mark) is in
    ap (λ (m : Option Mark). fold with_cell (shown_by m None) cs) is ∙ one_stays mark cs
    ∙ ap (shown_by (Some mark)) (sym (skip c cs mark (ap (is_the (other mark)) is ∙ not_other mark)))
    ∙ ap (λ (m : Option Mark). shown_by m (other_of m (c ∷ cs))) (sym first)

start : (cells : List Located) → fold with_cell none_shown cells ≡ shown_by (first_mark cells) (other_of (first_mark cells) cells)
start [] = refl
start (c ∷ cs) = start_at c cs (mark_in c.cell) refl (start cs)

settles : (first : Option Mark) (cells : List Located) → settled_by first (other_of first cells) ≡ shown_mark first cells
settles None cells = refl
settles (Some mark) cells = refl

-- what the marks of all cells settle
pub settled : (cells : List Located) (shown : Shown) → shown ≡ with_cells none_shown cells → settled_by shown.mark shown.other ≡ settled_mark None cells
unfolding with_cells
settled cells shown is =
    ap (λ (s : Shown). settled_by s.mark s.other) (is ∙ start cells) ∙ settles (first_mark cells) cells

pub settled_open : (named : Option Mark) (cells : List Located) (shown : Shown) → is_some named ≡ false → shown ≡ with_cells none_shown cells
    → settled_by shown.mark shown.other ≡ settled_mark named cells
settled_open None cells shown unnamed is = settled cells shown is
settled_open (Some mark) cells shown unnamed is = absurd (cc)

-- one column more of a row
pub row_next : (before shown shown2 : Shown) (table : Table) (records : List Record) (columns : List NumberColumn) (row i : ℕ) (d : NumberColumn)
    → i < length columns → shown ≡ with_cells before (row_numbers table records (take i columns) row)
    → shown2 ≡ with_cell shown (number_cell table records row (get_or columns i d))
    → shown2 ≡ with_cells before (row_numbers table records (take (i + 1) columns) row)
row_next before shown shown2 table records columns row i d below is last =
    let cell = number_cell table records row in
    last ∙ ap (λ (s : Shown). with_cell s (cell (get_or columns i d))) is
    ∙ sym (cells_push before (map cell (take i columns)) (cell (get_or columns i d)))
    ∙ ap (with_cells before) (sym (map_more cell columns i d below))

-- one row more of a table
pub table_next : (before shown shown2 : Shown) (table : Table) (records : List Record) (columns : List NumberColumn) (place : ℕ)
    → shown ≡ with_cells before (flat_map (row_numbers table records columns) (range_with_len 1 place))
    → shown2 ≡ with_cells shown (row_numbers table records columns (place + 1))
    → shown2 ≡ with_cells before (flat_map (row_numbers table records columns) (range_with_len 1 (place + 1)))
table_next before shown shown2 table records columns place is last =
    let numbers = row_numbers table records columns in
    last ∙ ap (λ (s : Shown). with_cells s (numbers (place + 1))) is
    ∙ sym (cells_append before (flat_map numbers (range_with_len 1 place)) (numbers (place + 1)))
    ∙ ap (with_cells before) (sym (pieces_more numbers 1 place (place + 1) (omega arith)))

pub both_tables : (before shown last : Shown) (places routes : List Record) (place_columns route_columns : List NumberColumn)
    → shown ≡ with_cells before (table_numbers Places places place_columns)
    → last ≡ with_cells shown (table_numbers Routes routes route_columns)
    → place_columns ≡ place_number_columns places → route_columns ≡ route_number_columns routes
    → last ≡ with_cells before (number_cells places routes)
unfolding number_cells
both_tables before shown last places routes place_columns route_columns first second p r =
    let a = table_numbers Places places (place_number_columns places) in
    let b = table_numbers Routes routes (route_number_columns routes) in
    second
    ∙ ap₂ (λ (s : Shown) (cs : List NumberColumn). with_cells s (table_numbers Routes routes cs))
    (first ∙ ap (λ (cs : List NumberColumn). with_cells before (table_numbers Places places cs)) p) r
    ∙ sym (cells_append before a b)
