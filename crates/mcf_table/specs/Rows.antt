-- The rows of a text, and the fields of a row, where a line feed alone ends a row.
-- Source: own, after RFC 4180
use Rattle.std.specs.Prelude.{◌≡◌, ◌≢◌, ℕ, ◌==◌, Bool, false, ◌&&◌, ◌||◌, ◌⊎◌, if◌then◌else◌, List, [], ◌∷◌, ◌++◌, replicate}
use Rattle.std.specs.List.{AllZip, list_any}
use Rattle.mcf_text.specs.Lines.{line_feed}
use Rattle.mcf_table.specs.Blanks.{trimmed}
use Rattle.mcf_table.specs.LineEnds.{carriage_return}
use Rattle.mcf_table.specs.declared.fault.FieldFault.{FieldFault}
use Rattle.mcf_table.specs.declared.fault.FieldFault.TheVariants.{Unclosed, AfterQuote}

-- the byte that may stand before a quote
abbrev pub space : ℕ
space = 32

-- the byte that encloses a field
abbrev pub quote : ℕ
quote = 34

-- the byte may separate fields: it's no line end, no space and no quote
pub record IsSeparator (byte : ℕ) : Type 0 where
  pub no_line_feed : byte ≢ line_feed
  pub no_carriage_return : byte ≢ carriage_return
  pub no_space : byte ≢ space
  pub no_quote : byte ≢ quote

-- these parts, with this byte after each
abbrev pub ended : ℕ → List (List ℕ) → List ℕ
ended byte [] = []
ended byte (part ∷ parts) = part ++ byte ∷ ended byte parts

-- each quote twice
abbrev pub doubled : List ℕ → List ℕ
doubled [] = []
doubled (b ∷ bs) = if b == quote then quote ∷ quote ∷ doubled bs else b ∷ doubled bs

-- spaces or none, a quote, and what stands after it, with each quote twice
abbrev pub opened : ℕ → List ℕ → List ℕ
opened spaces inside = replicate spaces space ++ quote ∷ doubled inside

-- spaces or none, and what stands between quotes, with each quote twice
abbrev pub quoted : ℕ → List ℕ → List ℕ
quoted spaces inside = opened spaces inside ++ quote ∷ []

-- after spaces or none, the first byte is a quote
abbrev pub begins_quoted : List ℕ → Bool
begins_quoted [] = false
begins_quoted (b ∷ bs) = b == quote || (b == space && begins_quoted bs)

-- the byte is the separator or ends a row
abbrev pub ends_field : ℕ → ℕ → Bool
ends_field separator b = b == separator || b == line_feed

-- no byte ends the field, and it doesn't begin with a quote
pub record IsPlain (separator : ℕ) (field : List ℕ) : Type 0 where
  pub inside : list_any (ends_field separator) field ≡ false
  pub unquoted : begins_quoted field ≡ false

-- The field says this cell: what stands in it, or between its quotes, without blanks at the ends.
abbrev pub IsField : ℕ → List ℕ → List ℕ → Type 0
IsField separator field cell =
    (IsPlain separator field × (cell ≡ trimmed field))
    ⊎ ((spaces : ℕ) × (inside : List ℕ) × (field ≡ quoted spaces inside) × (cell ≡ trimmed inside))

-- the row is one field or more, with a separator between them, which say these cells
pub record IsRow (separator : ℕ) (row : List ℕ) (cells : List (List ℕ)) : Type 0 where
  pub front : List (List ℕ)
  pub last : List ℕ
  pub spelled : row ≡ ended separator front ++ last
  pub said : AllZip (IsField separator) (front ++ last ∷ []) cells

-- No field begins these bytes. `Unclosed`: a quote opens, and none closes. `AfterQuote`: one closes
-- without a separator, a line end or the end of the text after it.
abbrev pub Breaks : ℕ → List ℕ → FieldFault → Type 0
Breaks separator bytes Unclosed = (spaces : ℕ) × (inside : List ℕ) × (bytes ≡ opened spaces inside)
Breaks separator bytes AfterQuote =
    (spaces : ℕ) × (inside : List ℕ) × (b : ℕ) × (rest : List ℕ) × (bytes ≡ quoted spaces inside ++ b ∷ rest)
    × (b ≢ quote) × (ends_field separator b ≡ false)
