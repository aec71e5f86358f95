-- The heads of the columns that say something about periods.
-- Source: own
use Rattle.std.specs.Prelude.{ℕ, Bool, List, [], ◌∷◌, codes, Option}
use Rattle.std.specs.List.{list_any}
use Rattle.mcf_reading.specs.declared.locations.Table.{Table}
use Rattle.mcf_reading.specs.declared.locations.Table.TheVariants.{Places, Routes}
use Rattle.mcf_table.specs.Heads.{column_of, is_there, only_place}
use Rattle.mcf_table.specs.Texts.{Record}
use Rattle.mcf_table.specs.declared.heads.Column.{Column}
use Rattle.mcf_period_reading.specs.declared.heads.PeriodHead.{PeriodHead}
use Rattle.mcf_period_reading.specs.declared.heads.PeriodHead.TheVariants.{Period, KeepMost, KeepCost, FirstStock, LastStock, Lead}

-- the text of a head
abbrev pub head_text : PeriodHead → List ℕ
head_text Period = codes "period"
head_text KeepMost = codes "keep most"
head_text KeepCost = codes "keep cost"
head_text FirstStock = codes "first stock"
head_text LastStock = codes "last stock"
head_text Lead = codes "lead"

-- the heads that are looked for in a table
abbrev pub heads_of : Table → List PeriodHead
heads_of Places = Period ∷ KeepMost ∷ KeepCost ∷ FirstStock ∷ LastStock ∷ []
heads_of Routes = Period ∷ Lead ∷ []

-- the column of a table that has this head
abbrev pub column_under : List Record → PeriodHead → Column
column_under records head = column_of (head_text head) records

-- the place of that column, if just one has the head
abbrev pub place_under : List Record → PeriodHead → Option ℕ
place_under records head = only_place (column_under records head)

-- a table has a column with one of these heads
abbrev pub has_any : List Record → List PeriodHead → Bool
has_any records heads = list_any (λ head. is_there (column_under records head)) heads
