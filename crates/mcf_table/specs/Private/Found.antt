-- What the reading of a field finds.
use Rattle.std.specs.Prelude.{◌≡◌, ℕ, ◌+◌, ◌<◌, ◌≤◌, ◌==◌, ◌⊎◌, Bool, true, false, ⊤, List, [], ◌∷◌, ◌++◌, length, take, drop, replicate, slice_index, nat_eq, nat_lt, if◌then◌else◌, Option, Some, None, All, map, filter}
use Rattle.std.specs.List.{AllZip, list_any, starts_with}
use Rattle.memchr.specs.Find.{is_byte}
use Rattle.mcf_text.specs.Lines.{line_feed}
use Rattle.mcf_table.specs.Blanks.{trimmed}
use Rattle.mcf_table.specs.LineEnds.{line_feeds}
use Rattle.mcf_table.specs.Rows.{Breaks, IsField, IsRow, doubled, ended, ends_field, quote, space}
use Rattle.mcf_table.specs.Separators.{parts_of, wanted_count}
use Rattle.mcf_table.specs.Texts.{AreRecords, Record, is_kept}
use Rattle.mcf_table.specs.declared.fault.FieldFault.{FieldFault}
use Rattle.mcf_table.specs.declared.heads.Column.{Column}
use Rattle.mcf_table.specs.declared.heads.Column.TheVariants.{Missing, Twice, At}
use Rattle.mcf_table.specs.declared.records.RowPart.{RowPart}
use Rattle.mcf_table.specs.declared.separators.Rank.{Rank}

-- the byte stands at this place, and nowhere before
pub record IsFirstAt (byte : ℕ) (text : List ℕ) (place : ℕ) : Type 0 where
  pub inside : place < length text
  pub here : slice_index text place ≡ byte
  pub none : list_any (is_byte byte) (take place text) ≡ false
  pub spelled : text ≡ take place text ++ byte ∷ drop (place + 1) text

-- a byte that ends a field stands at this place, and nowhere before
pub record EndsAt (separator : ℕ) (text : List ℕ) (place : ℕ) : Type 0 where
  pub inside : place < length text
  pub none : list_any (ends_field separator) (take place text) ≡ false
  pub ends : ends_field separator (slice_index text place) ≡ true

-- nothing follows, or a separator or a line feed
abbrev pub EndsField : ℕ → List ℕ → Type 0
EndsField separator [] = ⊤
EndsField separator (b ∷ bs) = ends_field separator b ≡ true

-- nothing follows, or a line feed
abbrev pub EndsRow : List ℕ → Type 0
EndsRow [] = ⊤
EndsRow (b ∷ bs) = b ≡ line_feed

-- no quote follows
abbrev pub NoQuote : List ℕ → Type 0
NoQuote [] = ⊤
NoQuote (b ∷ bs) = (b == quote) ≡ false

-- spaces, and then a quote at this place
pub record OpensAt (text : List ℕ) (place : ℕ) : Type 0 where
  pub inside : place < length text
  pub spelled : text ≡ replicate place space ++ quote ∷ drop (place + 1) text

-- a plain field of this length
pub record IsPlainLen (separator : ℕ) (text : List ℕ) (len : ℕ) : Type 0 where
  pub inside : len ≤ length text
  pub none : list_any (ends_field separator) (take len text) ≡ false
  pub ends : EndsField separator (drop len text)

-- the quote at this place closes what stands before it
pub record ClosesAt (text : List ℕ) (place : ℕ) : Type 0 where
  pub inside : place < length text
  pub here : slice_index text place ≡ quote
  pub said : (inside : List ℕ) × (take place text ≡ doubled inside)
  pub next : NoQuote (drop (place + 1) text)

-- no quote closes the bytes
abbrev pub IsOpen : List ℕ → Type 0
IsOpen text = (inside : List ℕ) × (text ≡ doubled inside)

-- the content of a field, where each quote is twice in a quoted one
abbrev pub IsContent : Bool → List ℕ → List ℕ → Type 0
IsContent true content inside = content ≡ doubled inside
IsContent false content inside = content ≡ inside

-- a field begins the text, of this content and length
pub record IsFirstField (separator : ℕ) (text content : List ℕ) (is_quoted : Bool) (len : ℕ) : Type 0 where
  pub inside : len ≤ length text
  pub ends : EndsField separator (drop len text)
  pub content_of : List ℕ
  pub content_is : IsContent is_quoted content content_of
  pub said : IsField separator (take len text) (trimmed content_of)

-- fields with a separator after each begin a row, and these are cells of theirs
pub record Begun (separator : ℕ) (text : List ℕ) (before cells : List (List ℕ)) : Type 0 where
  pub fields : List (List ℕ)
  pub more : List (List ℕ)
  pub spelled : text ≡ ended separator fields
  pub cells_are : cells ≡ before ++ more
  pub said : AllZip (IsField separator) fields more

-- a row of this length begins the text, and its cells were added
pub record IsFirstRow (separator : ℕ) (text : List ℕ) (before cells : List (List ℕ)) (len : ℕ) : Type 0 where
  pub inside : len ≤ length text
  pub ends : EndsRow (drop len text)
  pub more : List (List ℕ)
  pub cells_are : cells ≡ before ++ more
  pub said : IsRow separator (take len text) more

-- fields with a separator after each, and then no field
pub record IsBrokenRow (separator : ℕ) (text : List ℕ) (kind : FieldFault) : Type 0 where
  pub fields : List (List ℕ)
  pub cells : List (List ℕ)
  pub rest : List ℕ
  pub spelled : text ≡ ended separator fields ++ rest
  pub said : AllZip (IsField separator) fields cells
  pub breaks : Breaks separator rest kind

-- the bytes without the line feed in front of them
unfoldable pub without_feed : List ℕ → List ℕ
without_feed bytes = if starts_with nat_eq bytes (line_feed ∷ []) then drop 1 bytes else bytes

-- the row of this part of the cells
abbrev pub row_in : List (List ℕ) → RowPart → Record
row_in cells part = record { line = part.line; cells = take part.count (drop part.first cells) }

-- the part lies among so many cells
abbrev pub IsWithin : List (List ℕ) → RowPart → Type 0
IsWithin cells part = part.first + part.count ≤ length cells

-- the rows in front of this place were read, and the next begins on this line
pub record IsReadTo (separator : ℕ) (text : List ℕ) (cells : List (List ℕ)) (parts : List RowPart) (at line : ℕ) : Type 0 where
  pub inside : at ≤ length text
  pub rows : List (List ℕ)
  pub all : List Record
  pub spelled : take at text ≡ ended line_feed rows
  pub records : AreRecords separator 1 rows all
  pub kept : map (row_in cells) parts ≡ filter is_kept all
  pub within : All (IsWithin cells) parts
  pub line_is : line ≡ 1 + line_feeds (take at text)
  pub few : line ≤ at + 1

-- the column that was found, and also at this place
abbrev pub also_at : Column → ℕ → Column
also_at Missing place = At place
also_at Twice place = Twice
also_at (At other) place = Twice

-- the column that was found, and also at these places
abbrev pub also_at_all : Column → List ℕ → Column
also_at_all found [] = found
also_at_all found (place ∷ places) = also_at_all (also_at found place) places

-- the first splits better than the second
abbrev pub IsAbove : Rank → Rank → Type 0
IsAbove one other = (other.wanted < one.wanted) ⊎ ((other.wanted ≡ one.wanted) × (other.count < one.count))

-- how well the byte splits the line
pub record IsRank (line : List ℕ) (heads : List (List ℕ)) (byte : ℕ) (rank : Rank) : Type 0 where
  pub wanted : rank.wanted ≡ wanted_count heads (parts_of byte line)
  pub count : rank.count + 1 ≡ length (parts_of byte line)

-- the later one, if there is one with more of the wanted heads
abbrev pub with_more : Rank → Option Rank → Rank
with_more here None = here
with_more here (Some later) = if nat_lt here.wanted later.wanted then later else here
