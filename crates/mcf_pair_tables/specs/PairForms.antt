-- The rows of a table of persons and things as they are read: a sheet of wishes is a list, a list
-- has no row of totals, and columns are filled down.
-- Source: own
use Rattle.std.specs.Prelude.{◌≡◌, ℕ, if◌then◌else◌, List, [], length, Option, Some, None}
use Rattle.mcf_forms.specs.Filled.{filled_columns, fillings}
use Rattle.mcf_forms.specs.Totals.{total_line, without_total}
use Rattle.mcf_forms.specs.Wishes.{below_titles, is_sheet, needs_text, things, wish_list}
use Rattle.mcf_roster_reading.specs.Columns.{is_list}
use Rattle.mcf_table.specs.Texts.{Record}
use Rattle.mcf_pair_tables.specs.declared.prepared.Done.{Done}

-- ---- a sheet of wishes

-- the rows, as a list if they are a sheet of wishes
abbrev pub as_list : List Record → List Record
as_list records = if is_sheet (below_titles records) then wish_list (below_titles records) else records

-- how many wishes the sheet has, if it is one
abbrev pub wish_count : List Record → Option ℕ
wish_count records = if is_sheet (below_titles records) then Some (length (things (below_titles records))) else None

-- what a column `needs` of the sheet says for each thing; nothing if it isn't one
abbrev pub shared_needs : List Record → List ℕ
shared_needs records = if is_sheet (below_titles records) then needs_text (below_titles records) else []

-- ---- a row of totals

-- the rows without a last one of totals, if they are a list
abbrev pub untotalled : List Record → List Record
untotalled records = if is_list records then without_total records else records

-- the line of the row of totals that a list loses, if there is one
abbrev pub lost_total : List Record → Option ℕ
lost_total records = if is_list records then total_line records else None

-- ---- all of it

-- the rows that are read, with the columns of these heads filled down
abbrev pub prepared_costs : List (List ℕ) → List Record → List Record
prepared_costs heads records = filled_columns heads (untotalled (as_list records))

-- what is done to the rows
pub record IsDoneTo (heads : List (List ℕ)) (records : List Record) (done : Done) : Type 0 where
  pub wishes_are : done.wishes ≡ wish_count records
  pub needs_are : done.needs.items ≡ shared_needs records
  pub total_is : done.total ≡ lost_total (as_list records)
  pub filled_are : done.filled.items ≡ fillings heads (untotalled (as_list records))
