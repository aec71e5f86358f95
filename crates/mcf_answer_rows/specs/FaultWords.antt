-- Faults as rows of a table, and the words of faults of texts and cells.
-- Source: own
use Rattle.std.specs.Prelude.{ℕ, List, [], ◌∷◌, codes}
use Rattle.mcf_decimal.specs.declared.fault.NumberFault.{NumberFault}
use Rattle.mcf_decimal.specs.declared.fault.NumberFault.TheVariants.{Empty, Exponent, Either, OtherMark, NoNumber, TooLong}
use Rattle.mcf_names.specs.declared.faults.NameFault.{NameFault}
use Rattle.mcf_names.specs.declared.faults.NameFault.TheVariants as name
use Rattle.mcf_table.specs.declared.fault.FieldFault.{FieldFault}
use Rattle.mcf_table.specs.declared.fault.FieldFault.TheVariants.{Unclosed, AfterQuote}

-- a fault of a table, in six cells: `fault`, the table, the line, the column, what is wrong, and
-- the cell
abbrev pub fault_row : List ℕ → List ℕ → List ℕ → List ℕ → List ℕ → List (List ℕ)
fault_row table line column what cell = codes "fault" ∷ table ∷ line ∷ column ∷ what ∷ cell ∷ []

-- why a field isn't read
abbrev pub field_word : FieldFault → List ℕ
field_word Unclosed = codes "quote not closed"
field_word AfterQuote = codes "text after a quote"

-- why a cell isn't a name
abbrev pub name_word : NameFault → List ℕ
name_word name.Empty = codes "empty name"
name_word name.Control = codes "control character"

-- why a cell isn't a number
abbrev pub number_word : NumberFault → List ℕ
number_word Empty = codes "empty"
number_word Exponent = codes "exponent"
number_word Either = codes "either of two numbers"
number_word OtherMark = codes "other decimal mark"
number_word NoNumber = codes "no number"
number_word TooLong = codes "too many digits"

-- what is wrong with a number that is too great
unfoldable pub too_great : List ℕ
too_great = codes "too great"
