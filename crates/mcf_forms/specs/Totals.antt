-- A last row of totals.
-- Source: own
use Rattle.std.specs.Prelude.{ℕ, ◌-◌, nat_le, Bool, not, ◌&&◌, ◌||◌, if◌then◌else◌, List, [], ◌∷◌, length, take, map, codes, slice_index_or, Option, Some, None}
use Rattle.std.specs.List.{list_all, list_any}
use Rattle.mcf_decimal.specs.declared.mark.Mark.TheVariants.{Point, Comma}
use Rattle.mcf_table.specs.Heads.{head_at}
use Rattle.mcf_table.specs.Texts.{Record, is_filled, no_record}
use Rattle.mcf_forms.specs.Cells.{cell_at, columns, is_word, rows_above}
use Rattle.mcf_forms.specs.Sums.{is_sum}

-- the heads of names
abbrev pub name_heads : List (List ℕ)
name_heads = codes "name" ∷ codes "from" ∷ codes "to" ∷ codes "who" ∷ codes "what" ∷ []

-- the heads of numbers that a row of totals may add up
abbrev pub number_heads : List (List ℕ)
number_heads = codes "supply" ∷ codes "least" ∷ codes "most" ∷ codes "cost" ∷ []

-- what a row of totals may have for a name: nothing, or an English word; in pivot tables it is
-- Grand Total
abbrev pub english_totals : List (List ℕ)
english_totals = [] ∷ codes "total" ∷ codes "totals" ∷ codes "grand total" ∷ codes "sum" ∷ []

-- or a German word; in pivot tables it is Gesamtergebnis
abbrev pub german_totals : List (List ℕ)
german_totals =
    codes "gesamt" ∷ codes "gesamtsumme" ∷ codes "gesamtergebnis" ∷ codes "summe" ∷ codes "insgesamt" ∷ []

-- the test of such a name
abbrev pub is_total_word : List ℕ → Bool
is_total_word cell = is_word english_totals cell || is_word german_totals cell

-- the column has names
unfoldable pub has_names : List Record → ℕ → Bool
has_names records place = is_word name_heads (head_at records place)

-- the row has a word of totals for a name in this column, if it is one of names
unfoldable pub may_total : List Record → ℕ → ℕ → Bool
may_total records row place = not (has_names records place) || is_total_word (cell_at records row place)

-- the table has columns of names, and in each of them the row has a word of totals
unfoldable pub says_total : List Record → ℕ → Bool
says_total records row = list_any (has_names records) (columns records) && list_all (may_total records row) (columns records)

-- the row has a number in this column, if it is one of numbers
unfoldable pub has_number : List Record → ℕ → ℕ → Bool
has_number records row place = is_word number_heads (head_at records place) && is_filled (cell_at records row place)

-- the cells of a column between the heads and this row
abbrev pub cells_above : List Record → ℕ → ℕ → List (List ℕ)
cells_above records row place = map (λ above. cell_at records above place) (rows_above row)

-- the row's cell is the sum of those above it in its column, all read by one mark
unfoldable pub is_summed : List Record → ℕ → ℕ → Bool
is_summed records row place =
    is_sum (cells_above records row place) (cell_at records row place) Point
    || is_sum (cells_above records row place) (cell_at records row place) Comma

-- the row has a sum in this column, if it has a number there
unfoldable pub may_sum : List Record → ℕ → ℕ → Bool
may_sum records row place = not (has_number records row place) || is_summed records row place

-- the row has numbers, and each is the sum of those above it
unfoldable pub has_sums : List Record → ℕ → Bool
has_sums records row = list_any (has_number records row) (columns records) && list_all (may_sum records row) (columns records)

-- the last row
abbrev pub last_row : List Record → ℕ
last_row records = length records - 1

-- The last row is one of totals: at least two rows stand between the heads and it, its names are
-- words of totals, and its numbers are sums.
unfoldable pub has_total : List Record → Bool
has_total records =
    nat_le 3 (last_row records) && (says_total records (last_row records) && has_sums records (last_row records))

-- the rows without a last one of totals
abbrev pub without_total : List Record → List Record
without_total records = if has_total records then take (last_row records) records else records

-- the line of a last row of totals, if there is one
abbrev pub total_line : List Record → Option ℕ
total_line records = if has_total records then Some (slice_index_or records (last_row records) no_record).line else None
