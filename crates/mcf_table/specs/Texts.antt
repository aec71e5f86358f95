-- The records of a text.
-- Source: own, after RFC 4180
use Rattle.std.specs.Prelude.{◌≡◌, ℕ, ◌+◌, ◌==◌, Bool, not, ⊤, List, [], ◌∷◌, ◌++◌, length, filter, Result, Ok, Err}
use Rattle.std.specs.List.{AllZip, list_any}
use Rattle.mcf_text.specs.Lines.{line_feed}
use Rattle.mcf_table.specs.LineEnds.{line_feeds, unified, unmarked}
use Rattle.mcf_table.specs.Rows.{Breaks, IsField, IsRow, ended}
use Rattle.mcf_table.specs.declared.fault.TextFault.{TextFault}

-- a row: the line on which it begins, from 1, and its cells
pub record Record : Type 0 where
  pub line : ℕ
  pub cells : List (List ℕ)

-- the cell isn't empty
abbrev pub is_filled : List ℕ → Bool
is_filled cell = not (length cell == 0)

-- the row has a cell that isn't empty
abbrev pub is_kept : Record → Bool
is_kept row = list_any is_filled row.cells

-- these rows, each ended by a line feed, are these records, if the first begins on this line
abbrev pub AreRecords : ℕ → ℕ → List (List ℕ) → List Record → Type 0
AreRecords separator line [] [] = ⊤
AreRecords separator line [] (said ∷ records) = ⊥
AreRecords separator line (row ∷ rows) [] = ⊥
AreRecords separator line (row ∷ rows) (said ∷ records) =
    (said.line ≡ line) × IsRow separator row said.cells
    × AreRecords separator (line + line_feeds row + 1) rows records

-- The text, in which a line feed alone ends a row, is rows with a line feed between them; these are
-- their records, without those whose cells are all empty.
pub record IsText (separator : ℕ) (text : List ℕ) (records : List Record) : Type 0 where
  pub front : List (List ℕ)
  pub last : List ℕ
  pub all : List Record
  pub spelled : text ≡ ended line_feed front ++ last
  pub rows : AreRecords separator 1 (front ++ last ∷ []) all
  pub kept : records ≡ filter is_kept all

-- The text is rows, each with a line feed after it, then fields, each with a separator after it,
-- and then no field; the fault is of the line on which that row begins.
pub record IsBroken (separator : ℕ) (text : List ℕ) (fault : TextFault) : Type 0 where
  pub rows : List (List ℕ)
  pub records : List Record
  pub fields : List (List ℕ)
  pub cells : List (List ℕ)
  pub rest : List ℕ
  pub spelled : text ≡ ended line_feed rows ++ (ended separator fields ++ rest)
  pub before : AreRecords separator 1 rows records
  pub said : AllZip (IsField separator) fields cells
  pub line : fault.line ≡ 1 + line_feeds (ended line_feed rows)
  pub breaks : Breaks separator rest fault.kind

-- the text, in which a line feed alone ends a row, says these records, or has this fault
abbrev pub Says : ℕ → List ℕ → Result (List Record) TextFault → Type 0
Says separator text (Ok records) = IsText separator text records
Says separator text (Err fault) = IsBroken separator text fault

-- The text says these records, or has this fault. A byte order mark in front doesn't count, and
-- each line end is the same as a line feed.
abbrev pub Reads : ℕ → List ℕ → Result (List Record) TextFault → Type 0
Reads separator text answer = Says separator (unified (unmarked text)) answer

-- a row without cells, for places beyond the last row
abbrev pub no_record : Record
no_record = record { line = 0; cells = [] }
