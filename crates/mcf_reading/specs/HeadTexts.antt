-- The heads of the columns that are read.
-- Source: own
use Rattle.std.specs.Prelude.{ℕ, ◌+◌, ◌-◌, nat_lt, Bool, if◌then◌else◌, List, [], ◌∷◌, ◌++◌, length, codes, decimal}
use Rattle.std.specs.List.{flat_map, prefix_len, range_with_len}
use Rattle.mcf_table.specs.Heads.{column_of, heads, is_there}
use Rattle.mcf_table.specs.Texts.{Record}
use Rattle.mcf_table.specs.declared.heads.Column.{Column}
use Rattle.mcf_reading.specs.declared.locations.Head.{Head}
use Rattle.mcf_reading.specs.declared.locations.Head.TheVariants.{Name, Supply, Least, Most, Cost, Penalty, From, To, Both}
use Rattle.mcf_reading.specs.declared.locations.Table.{Table}
use Rattle.mcf_reading.specs.declared.locations.Table.TheVariants.{Places, Routes}

-- the word of a head
abbrev pub head_word : Head → List ℕ
head_word Name = codes "name"
head_word Supply = codes "supply"
head_word Least = codes "least"
head_word (Most step) = codes "most"
head_word (Cost step) = codes "cost"
head_word Penalty = codes "penalty"
head_word From = codes "from"
head_word To = codes "to"
head_word Both = codes "both"

-- the step of which a head speaks, or the first
abbrev pub head_step : Head → ℕ
head_step (Most step) = step
head_step (Cost step) = step
head_step head = 1

-- from the second step on, a space and the number of the step
abbrev pub step_text : ℕ → List ℕ
step_text step = if nat_lt step 2 then [] else 32 ∷ decimal step

-- the text of a head, as `most`, and `most 2` for the second step
unfoldable pub head_text : Head → List ℕ
head_text head = head_word head ++ step_text (head_step head)

-- the column of a table that has this head
unfoldable pub column_under : List Record → Head → Column
column_under records head = column_of (head_text head) records

-- the table of places has a column of periods, `period`
unfoldable pub has_periods : List Record → Bool
has_periods places = is_there (column_of (codes "period") places)

-- How many steps follow the first: 2, 3 and so on, as long as a column has the head of their most.
-- Four columns, at least, have other heads: those of the ends and of the first step.
unfoldable pub further_count : List Record → ℕ
further_count records =
    prefix_len (λ step. is_there (column_under records (Most step))) (range_with_len 2 (length (heads records) - 4))

-- the steps that follow the first
abbrev pub further_steps : List Record → List ℕ
further_steps records = range_with_len 2 (further_count records)

-- all steps
abbrev pub all_steps : List Record → List ℕ
all_steps records = range_with_len 1 (further_count records + 1)

-- the heads of a step
abbrev pub step_heads : ℕ → List Head
step_heads step = Most step ∷ Cost step ∷ []

-- the heads that are looked for in the table of places
abbrev pub place_heads : List Head
place_heads = Name ∷ Supply ∷ Least ∷ Most 1 ∷ Cost 1 ∷ Penalty ∷ []

-- the heads that are looked for in the table of routes, without those of further steps
abbrev pub first_route_heads : List Head
first_route_heads = From ∷ To ∷ Most 1 ∷ Cost 1 ∷ Least ∷ Both ∷ []

-- the heads that a table may have, without those of further steps
abbrev pub first_heads : Table → List Head
first_heads Places = place_heads
first_heads Routes = first_route_heads

-- the heads that are looked for in the table of routes
abbrev pub route_heads : List Record → List Head
route_heads records = first_route_heads ++ flat_map step_heads (further_steps records)

-- the heads that are looked for in a table
abbrev pub read_heads : Table → List Record → List Head
read_heads Places records = place_heads
read_heads Routes records = route_heads records
