-- Laws of texts of tables.
-- Source: own
use Rattle.std.specs.Prelude.{◌≡◌, ℕ, List, All, Result}
use Rattle.mcf_table.specs.Rows.{IsSeparator}
use Rattle.mcf_table.specs.Texts.{IsText, Reads, Record}
use Rattle.mcf_table.specs.Written.{IsWritable, records_from, table_text}
use Rattle.mcf_table.specs.declared.fault.TextFault.{TextFault}

-- a text says just one list of records, or has just one fault
abbrev pub TextsAreUnambiguous : Type 0
TextsAreUnambiguous =
    (separator : ℕ) (text : List ℕ) (one other : Result (List Record) TextFault) → IsSeparator separator
    → Reads separator text one → Reads separator text other → one ≡ other

-- rows whose cells stand between quotes, each with a line feed after it, say these rows
abbrev pub WrittenTablesReadBack : Type 0
WrittenTablesReadBack =
    (separator : ℕ) (rows : List (List (List ℕ))) → All IsWritable rows
    → IsText separator (table_text separator rows) (records_from separator 1 rows)
