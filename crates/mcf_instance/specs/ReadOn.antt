-- What a reader has read so far, and which lines of which texts it stands for.
-- Source: own
use Rattle.std.specs.Prelude.{◌≡◌, ℕ, ◌+◌, if◌then◌else◌, Bool, true, List, [], ◌++◌, map, length, filter, slice_get, IsTrue, ℤ, Option, Some, None, Err}
use Rattle.std.specs.List.{range_with_len}
use Rattle.mcf_flows.specs.declared.arc.PackedArc.{PackedArc}
use Rattle.mcf_instance.specs.declared.reader.line.Header.{Header}
use Rattle.mcf_instance.specs.Fault.{arc_lines, faults, has_p, header, is_listed, of_min, total_of}
use Rattle.mcf_flows.specs.Codes.{Fault}
use Rattle.mcf_flows.specs.Limits.{Limits}
use Rattle.mcf_flows.specs.Packed.{unpacked}
use Rattle.mcf_instance.specs.Reading.{arc_of, reading, supply_of}
use Rattle.mcf_text.specs.Feed.{Feed}
use Rattle.mcf_text.specs.Fields.{is_kept}
use Rattle.mcf_text.specs.Lines.{numbered_lines}
use Rattle.mcf_text.specs.Row.{Row, row_of}

-- what the lines so far say, with the total of their arcs, or the first fault
pub record StateData : Type 0 where
  pub header : Option Header
  pub listed : List Bool
  pub supplies : List ℤ
  pub arcs : List PackedArc
  pub total : ℕ
  pub refusal : Option Fault

-- what the first problem line says, if there is one
abbrev pub header_seen : List Row → Option Header
header_seen lines = if has_p lines then Some (header lines) else None

-- the state of lines without a fault
pub record Holds (s : StateData) (lines : List Row) : Type 0 where
  pub first_is_header : s.header ≡ None → lines ≡ []
  pub header_is : s.header ≡ header_seen lines
  pub listed_is : s.listed ≡ map (is_listed lines) (range_with_len 1 (header lines).nodes)
  pub supplies_are : s.supplies ≡ map (supply_of (header lines).problem lines) (range_with_len 1 (header lines).nodes)
  pub arcs_are : map unpacked s.arcs ≡ map (arc_of (header lines).problem) (arc_lines lines)
  pub total_is : of_min lines ≡ true → s.total ≡ total_of lines

-- the state refuses with the first fault of the lines, and if there is none holds what they say
pub record Stands (allowed : Limits) (s : StateData) (lines : List Row) : Type 0 where
  pub refusal_is : s.refusal ≡ slice_get (faults allowed lines) 0
  pub holds : s.refusal ≡ None → Holds s lines

-- the kept ones of some numbered lines, as rows
abbrev pub kept_rows : List (ℕ × List ℕ) → List Row
kept_rows lines = map row_of (filter (λ line. is_kept line.1) lines)

-- the state stands for the lines of the text before the rest, and the rest begins at this number
pub record HasRead (allowed : Limits) (text : List ℕ) (s : StateData) (next : ℕ) (rest : List (ℕ × List ℕ)) : Type 0 where
  pub before : List (ℕ × List ℕ)
  pub joined : numbered_lines 1 text ≡ before ++ rest
  pub next_is : next ≡ 1 + length before
  pub stands : Stands allowed s (kept_rows before)

-- the state stands for the lines that were popped of the text, whatever pieces follow it
abbrev pub HasReadPieces : Limits → List ℕ → Feed → StateData → Type 0
HasReadPieces allowed text feed s = (more : List ℕ) → (IsTrue feed.has_ended → more ≡ [])
    → HasRead allowed (text ++ more) s (feed.popped + 1) (numbered_lines (feed.popped + 1) (feed.rest ++ more))

-- as long as no line has a fault the state stands for them; the first fault of a line is that of
-- the text, whatever pieces follow it
pub record HasReadOn (allowed : Limits) (text : List ℕ) (feed : Feed) (s : StateData) : Type 0 where
  pub lines_read : s.refusal ≡ None → HasReadPieces allowed text feed s
  pub refused : (fault : Fault) → s.refusal ≡ Some fault → (more : List ℕ) → (IsTrue feed.has_ended → more ≡ []) → reading allowed (text ++ more) ≡ Err fault
