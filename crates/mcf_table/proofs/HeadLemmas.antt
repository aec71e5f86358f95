-- Places in a row, one after another.
use Rattle.std.proofs.Common.{◌≡◌, ℕ, suc, ◌+◌, ◌-◌, ◌<◌, ◌≤◌, Bool, true, false, List, [], ◌∷◌, ◌++◌, length, refl, sym, ap, ◌∙◌, arith, append_assoc, append-nil}
use Rattle.std.specs.Prelude.{filter, slice_index_or}
use Rattle.std.specs.List.{flat_map, range_with_len}
use Rattle.std.specs.Str.{str_eq_ignore_ascii_case}
use Rattle.mcf_table.specs.Heads.{beyond, cells_of, column_at, column_of, filled_from, heads, in_row}
use Rattle.mcf_table.specs.Private.Found.{also_at, also_at_all}
use Rattle.mcf_table.specs.Texts.{Record, is_filled}
use Rattle.mcf_table.specs.declared.heads.CellPlace.{CellPlace}
use Rattle.mcf_table.specs.declared.heads.Column.{Column}
use Rattle.mcf_table.specs.declared.heads.Column.TheVariants.{Missing, Twice}

-- the numbers from this one on, below a number
abbrev pub from_on : ℕ → ℕ → List ℕ
from_on first count = range_with_len first (count - first)

pub from_next : (first count : ℕ) → first < count → from_on first count ≡ first ∷ from_on (first + 1) count
from_next first count below =
    let more : count - first ≡ suc (count - (first + 1)) = omega (arith, below) in
    ap (range_with_len first) more

pub from_end : (first count : ℕ) → count ≤ first → from_on first count ≡ []
from_end first count past = let none : count - first ≡ 0 = omega (arith, past) in ap (range_with_len first) none

pub hit : (test : ℕ → Bool) (first count : ℕ) → first < count → test first ≡ true
    → filter test (from_on first count) ≡ first ∷ filter test (from_on (first + 1) count)
hit test first count below is = ap (filter test) (from_next first count below) ∙ rw is refl

pub miss : (test : ℕ → Bool) (first count : ℕ) → first < count → test first ≡ false
    → filter test (from_on first count) ≡ filter test (from_on (first + 1) count)
miss test first count below is = ap (filter test) (from_next first count below) ∙ rw is refl

twice : (places : List ℕ) → also_at_all Twice places ≡ Twice
twice [] = refl
twice (place ∷ places) = twice places

pub column_found : (places : List ℕ) → also_at_all Missing places ≡ column_at places
column_found [] = refl
column_found (place ∷ []) = refl
column_found (place ∷ other ∷ places) = twice places

from_zero : (count : ℕ) → from_on 0 count ≡ range_with_len 0 count
from_zero count = let same : count - 0 ≡ count = omega arith in ap (range_with_len 0) same

abbrev pub is_head : List ℕ → List Record → ℕ → Bool
is_head head records place = str_eq_ignore_ascii_case (slice_index_or (heads records) place []) head

-- the places of the head from this one on
abbrev pub heads_left : List ℕ → List Record → ℕ → List ℕ
heads_left head records place = filter (is_head head records) (from_on place (length (heads records)))

pub heads_start : (head : List ℕ) (records : List Record) → also_at_all Missing (heads_left head records 0) ≡ column_of head records
heads_start head records =
    ap (λ (places : List ℕ). also_at_all Missing (filter (is_head head records) places)) (from_zero (length (heads records)))
    ∙ column_found (filter (is_head head records) (range_with_len 0 (length (heads records))))

pub heads_hit : (head : List ℕ) (records : List Record) (found : Column) (place : ℕ) → place < length (heads records)
    → is_head head records place ≡ true → also_at_all found (heads_left head records place) ≡ column_of head records
    → also_at_all (also_at found place) (heads_left head records (place + 1)) ≡ column_of head records
heads_hit head records found place below is left =
    sym (ap (also_at_all found) (hit (is_head head records) place (length (heads records)) below is)) ∙ left

pub heads_miss : (head : List ℕ) (records : List Record) (found : Column) (place : ℕ) → place < length (heads records)
    → is_head head records place ≡ false → also_at_all found (heads_left head records place) ≡ column_of head records
    → also_at_all found (heads_left head records (place + 1)) ≡ column_of head records
heads_miss head records found place below other left =
    sym (ap (also_at_all found) (miss (is_head head records) place (length (heads records)) below other)) ∙ left

pub heads_end : (head : List ℕ) (records : List Record) (found : Column) (place : ℕ) → length (heads records) ≤ place
    → also_at_all found (heads_left head records place) ≡ column_of head records → found ≡ column_of head records
heads_end head records found place past left =
    sym (ap (λ (places : List ℕ). also_at_all found (filter (is_head head records) places)) (from_end place (length (heads records)) past)) ∙ left

abbrev pub is_filled_at : List (List ℕ) → ℕ → Bool
is_filled_at cells place = is_filled (slice_index_or cells place [])

-- the row's filled cells from this place on
abbrev pub cells_left : List (List ℕ) → ℕ → ℕ → List CellPlace
cells_left cells row place = in_row row (filter (is_filled_at cells) (from_on place (length cells)))

pub cells_hit : (cells : List (List ℕ)) (row place : ℕ) (found want : List CellPlace) → place < length cells → is_filled_at cells place ≡ true
    → found ++ cells_left cells row place ≡ want
    → (found ++ record { row = row; place = place } ∷ []) ++ cells_left cells row (place + 1) ≡ want
cells_hit cells row place found want below is left =
    append_assoc found (record { row = row; place = place } ∷ []) (cells_left cells row (place + 1))
    ∙ sym (ap (λ (places : List ℕ). found ++ in_row row places) (hit (is_filled_at cells) place (length cells) below is)) ∙ left

pub cells_miss : (cells : List (List ℕ)) (row place : ℕ) (found want : List CellPlace) → place < length cells → is_filled_at cells place ≡ false
    → found ++ cells_left cells row place ≡ want → found ++ cells_left cells row (place + 1) ≡ want
cells_miss cells row place found want below other left =
    sym (ap (λ (places : List ℕ). found ++ in_row row places) (miss (is_filled_at cells) place (length cells) below other)) ∙ left

pub cells_end : (cells : List (List ℕ)) (row place : ℕ) (found want : List CellPlace) → length cells ≤ place
    → found ++ cells_left cells row place ≡ want → found ≡ want
cells_end cells row place found want past left =
    sym (ap (λ (places : List ℕ). found ++ in_row row (filter (is_filled_at cells) places)) (from_end place (length cells) past) ∙ append-nil found) ∙ left

abbrev beyond_in : List Record → ℕ → List CellPlace
beyond_in records row = in_row row (filled_from (length (heads records)) (cells_of records row))

-- the cells beyond the last head, from this row on
abbrev pub rows_left : List Record → ℕ → List CellPlace
rows_left records row = flat_map (beyond_in records) (from_on row (length records))

pub rows_start : (records : List Record) → rows_left records 0 ≡ beyond records
rows_start records = ap (flat_map (beyond_in records)) (from_zero (length records))

pub rows_next : (records : List Record) (row : ℕ) (found found2 : List CellPlace) → row < length records
    → found ++ rows_left records row ≡ beyond records → found2 ≡ found ++ beyond_in records row
    → found2 ++ rows_left records (row + 1) ≡ beyond records
rows_next records row found found2 below left more =
    ap (λ (cells : List CellPlace). cells ++ rows_left records (row + 1)) more
    ∙ append_assoc found (beyond_in records row) (rows_left records (row + 1))
    ∙ sym (ap (λ (rows : List ℕ). found ++ flat_map (beyond_in records) rows) (from_next row (length records) below)) ∙ left

pub rows_end : (records : List Record) (row : ℕ) (found : List CellPlace) → length records ≤ row
    → found ++ rows_left records row ≡ beyond records → found ≡ beyond records
rows_end records row found past left =
    sym (ap (λ (rows : List ℕ). found ++ flat_map (beyond_in records) rows) (from_end row (length records) past) ∙ append-nil found) ∙ left
