-- What is known of a sheet of wishes.
use Rattle.std.specs.Prelude.{◌≡◌, ℕ, List}
use Rattle.mcf_table.specs.Texts.{Record}
use Rattle.mcf_forms.specs.Wishes.{column_ranks, needs_text, who_place}

-- the ranks of its columns, the place of the column of names, and what a column `needs` says
pub record IsKnown (records : List Record) (ranks : List ℕ) (who : ℕ) (needs : List ℕ) : Type 0 where
  pub ranks_are : ranks ≡ column_ranks records
  pub who_is : who ≡ who_place records
  pub needs_is : needs ≡ needs_text records
