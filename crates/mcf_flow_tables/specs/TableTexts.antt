-- The tables that two texts are.
-- Source: own
use Rattle.std.specs.Prelude.{◌≡◌, ℕ, Bool, true, false, ◌⊎◌, List, [], ◌∷◌, drop, codes, Some, None, Ok, Err}
use Rattle.std.specs.Option.{is_some}
use Rattle.mcf_table.specs.HeadRows.{head_row}
use Rattle.mcf_table.specs.NamedSeparators.{named_separator}
use Rattle.mcf_table.specs.Separators.{SplitsBest, front_lines}
use Rattle.mcf_table.specs.Texts.{Reads, Record}
use Rattle.mcf_table.specs.declared.fault.TextFault.{TextFault}

-- the heads that a table of places needs
abbrev pub place_wanted : List (List ℕ)
place_wanted = codes "name" ∷ codes "supply" ∷ []

-- the heads that a table of routes needs
abbrev pub route_wanted : List (List ℕ)
route_wanted = codes "from" ∷ codes "to" ∷ codes "most" ∷ codes "cost" ∷ []

-- the fields of the text are separated by this byte: the one that it names, or else the one that
-- splits the line of its heads best
abbrev pub IsSeparatedBy : List (List ℕ) → List ℕ → ℕ → Type 0
IsSeparatedBy wanted text byte =
    (named_separator text ≡ Some byte) ⊎ ((named_separator text ≡ None) × SplitsBest (front_lines text) wanted byte)

-- one row names the separator, or none
abbrev pub row_after : Bool → ℕ
row_after true = 1
row_after false = 0

-- the first row that may have the heads: the one after the row that names the separator
abbrev pub first_row : List ℕ → ℕ
first_row text = row_after (is_some (named_separator text))

-- the text says these rows, from the row of its heads on
pub record IsTableOf (wanted : List (List ℕ)) (text : List ℕ) (records : List Record) : Type 0 where
  pub separator : ℕ
  pub all : List Record
  pub separated : IsSeparatedBy wanted text separator
  pub reads : Reads separator text (Ok all)
  pub below : records ≡ drop (head_row (first_row text) wanted all) all

-- the text is no table, for this reason
pub record IsBrokenText (wanted : List (List ℕ)) (text : List ℕ) (fault : TextFault) : Type 0 where
  pub separator : ℕ
  pub separated : IsSeparatedBy wanted text separator
  pub reads : Reads separator text (Err fault)
