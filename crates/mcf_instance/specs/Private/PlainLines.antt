-- Arc lines of the plain form at the front of a text: the fields of a line told by the places where
-- they begin.
use Rattle.std.specs.Prelude.{◌≡◌, ◌≢◌, ℕ, ◌+◌, ◌<◌, ◌≤◌, true, List, [], ◌∷◌, ◌++◌, length, get_or, take, drop, codes, slice_index_or, ℤ, Bool, Some}
use Rattle.mcf_text.specs.Fields.{EndsRun, fields_of, is_blank, is_kept}
use Rattle.mcf_text.specs.Lines.{line_feed, lines_of}
use Rattle.mcf_text.specs.Whole.{is_whole, whole_value}
use Rattle.mcf_flows.specs.declared.problem.Problem.{Problem}
use Rattle.mcf_instance.specs.declared.reader.line.ArcNumbers.{ArcNumbers}
use Rattle.mcf_instance.specs.declared.reader.line.Header.{Header}
use Rattle.mcf_flows.specs.Limits.{limits}
use Rattle.mcf_instance.specs.Private.LineReader.{arc_line, arc_tests, clamped}

-- the text begins with the letter `a` and a blank
pub record BeginsArc (text : List ℕ) : Type 0 where
  pub inside : 2 ≤ length text
  pub letter : get_or text 0 0 ≡ 97
  pub blank : is_blank (get_or text 1 0) ≡ true

-- of the fields of a line from one place on the first is this number, and the others begin at the
-- next place or later
pub record HasNumber (line : List ℕ) (start next : ℕ) (value : ℤ) : Type 0 where
  pub first : List ℕ
  pub fields : fields_of (drop start line) ≡ first ∷ fields_of (drop next line)
  pub whole : is_whole first ≡ true
  pub value_is : clamped (whole_value first) ≡ value

-- a field of a line may end at this place, and the fields after it begin at the next place or later
pub record EndsField (line : List ℕ) (end next : ℕ) : Type 0 where
  pub run : EndsRun (drop end line)
  pub fields : fields_of (drop end line) ≡ fields_of (drop next line)

-- no byte from one place up to another ends a line
abbrev pub IsClear : List ℕ → ℕ → ℕ → Type 0
IsClear text from to = (i : ℕ) → from ≤ i → i < to → get_or text i 0 ≢ line_feed

-- digits, perhaps with a minus sign, stand between these places: in a line that ends later they are
-- this number, where a field ends with them
pub record HasDigits (text : List ℕ) (start stop : ℕ) (value : ℤ) : Type 0 where
  pub moves : start ≤ stop
  pub inside : stop ≤ length text
  pub clear : IsClear text start stop
  pub number : (end next : ℕ) → stop ≤ end → end ≤ length text → EndsField (take end text) stop next → HasNumber (take end text) start next value

-- a blank stands at one place, and the other is the next
pub record BlankAt (text : List ℕ) (stop next : ℕ) : Type 0 where
  pub inside : stop < length text
  pub next_is : next ≡ stop + 1
  pub blank : is_blank (get_or text stop 0) ≡ true

-- this number and a blank stand between these places
pub record HasField (text : List ℕ) (start next : ℕ) (value : ℤ) : Type 0 where
  pub moves : start ≤ next
  pub inside : next ≤ length text
  pub clear : IsClear text start next
  pub number : (end : ℕ) → next ≤ end → end ≤ length text → HasNumber (take end text) start next value

-- a field that ends at one place is the last of the line that ends at the other
pub record EndsLine (text : List ℕ) (stop end : ℕ) : Type 0 where
  pub inside : end < length text
  pub moves : stop ≤ end
  pub feed : get_or text end 0 ≡ line_feed
  pub clear : IsClear text stop end
  pub field : EndsField (take end text) stop end

-- this number is the last field of the line that ends at this place
pub record HasLastField (text : List ℕ) (start end : ℕ) (value : ℤ) : Type 0 where
  pub moves : start ≤ end
  pub inside : end < length text
  pub feed : get_or text end 0 ≡ line_feed
  pub clear : IsClear text start end
  pub number : HasNumber (take end text) start end value

-- the first line of the text ends at this place, whatever follows the text
pub record HasLine (text : List ℕ) (end : ℕ) : Type 0 where
  pub inside : end < length text
  pub joined : (more : List ℕ) → lines_of (text ++ more) ≡ take end text ∷ lines_of (drop (end + 1) text ++ more)

-- the first line of the text is an arc line of the problem with these numbers
pub record SaysArc (problem : Problem) (text : List ℕ) (numbers : ArcNumbers) (end : ℕ) : Type 0 where
  pub line : HasLine text end
  pub word : slice_index_or (fields_of (take end text)) 0 [] ≡ codes "a"
  pub kept : is_kept (take end text) ≡ true
  pub says : (h : Header) (arcs total : ℕ) (listed : List Bool) → h.problem ≡ problem
      → arc_line limits (Some h) arcs total listed (fields_of (take end text)) ≡ arc_tests limits h arcs total listed numbers
