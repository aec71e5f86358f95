-- The fields of a line, as words and numbers.
-- Source: own
use Rattle.std.specs.Prelude.{ℕ, Bool, false, if◌then◌else◌, List, map, bytes_eq, ℤ}
use Rattle.mcf_text.specs.Row.{Row, rows}
use Rattle.mcf_text.specs.Whole.{is_whole, whole_value}

-- a field: a number by its value, or any other word
pub data Token : Type 0 where
  Word : (bytes : List ℕ) → Token
  Number : (value : ℤ) → Token

-- a whole number by its value, otherwise the bytes themselves
abbrev pub token_of : List ℕ → Token
token_of field = if is_whole field then Number (whole_value field) else Word field

-- the fields of a line, numbers by their values
abbrev pub tokens_of : List (List ℕ) → List Token
tokens_of fields = map token_of fields

-- the fields of a kept line, numbers by their values
abbrev pub tokens : Row → List Token
tokens row = tokens_of row.fields

-- the kept lines of a text, numbers by their values
abbrev pub token_lines : List ℕ → List (List Token)
token_lines text = map tokens (rows text)

-- this very word
abbrev pub is_word : List ℕ → Token → Bool
is_word word (Word bytes) = bytes_eq bytes word
is_word word (Number z) = false
