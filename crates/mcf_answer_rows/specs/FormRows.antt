-- What answers say of tables in other forms, as rows of a table.
-- Source: own
use Rattle.std.specs.Prelude.{ℕ, List, [], ◌∷◌, codes, decimal, Option, Some, None}
use Rattle.mcf_answer_rows.specs.FaultWords.{fault_row}
use Rattle.mcf_forms.specs.declared.columns.Filling.{Filling}
use Rattle.mcf_table.specs.Heads.{head_at}
use Rattle.mcf_table.specs.Texts.{Record}

-- a word, a table, and a number, if there is one
abbrev pub told_rows : List ℕ → List ℕ → Option ℕ → List (List (List ℕ))
told_rows word table None = []
told_rows word table (Some number) = (word ∷ table ∷ decimal number ∷ []) ∷ []

-- how many routes the list has that a matrix became: `list`, the table, and the number
abbrev pub list_rows : List ℕ → Option ℕ → List (List (List ℕ))
list_rows table count = told_rows (codes "list") table count

-- the row of totals that was left out: `left out`, the table, and its line
abbrev pub left_out_rows : List ℕ → Option ℕ → List (List (List ℕ))
left_out_rows table line = told_rows (codes "left out") table line

-- the sheet of wishes that became a list: `wishes`, the table, how many there are, and what its
-- column `needs` says for each thing
abbrev pub wish_rows : List ℕ → Option ℕ → List ℕ → List (List (List ℕ))
wish_rows table None needs = []
wish_rows table (Some count) needs = (codes "wishes" ∷ table ∷ decimal count ∷ needs ∷ []) ∷ []

-- a column that was filled down: `filled`, the table, its head, and how many of its cells took the
-- one above
abbrev pub filled_row : List ℕ → List Record → Filling → List (List ℕ)
filled_row table records column = codes "filled" ∷ table ∷ head_at records column.place ∷ decimal column.count ∷ []

-- the number of a head of a column to fill down that no table has, as a fault of options
abbrev pub lacking_row : ℕ → List (List ℕ)
lacking_row number = fault_row (codes "options") (decimal number) (codes "fill down") (codes "no such column") []
