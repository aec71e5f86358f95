-- Arc lines at the front of a text, taken in by the reader's state.
use Rattle.std.specs.Prelude.{◌≡◌, ℕ, ◌+◌, true, List, ◌++◌, take, Option, None, Some, Ok}
use Rattle.mcf_text.specs.Fields.{fields_of, is_kept}
use Rattle.mcf_text.specs.Lines.{numbered_lines}
use Rattle.mcf_flows.specs.declared.arc.PackedArc.{PackedArc}
use Rattle.mcf_instance.specs.declared.reader.line.Item.TheVariants.{Link}
use Rattle.mcf_flows.specs.Limits.{limits}
use Rattle.mcf_instance.specs.Memory.{NamesNodes}
use Rattle.mcf_instance.specs.ReadOn.{HasRead, StateData}
use Rattle.mcf_instance.specs.Private.PlainLines.{HasLine}
use Rattle.mcf_instance.specs.Private.ReaderState.{item_of, with_item}

-- the first line of the text ends at this place, and says this arc to the state
pub record BeginsWithArc (s : StateData) (text : List ℕ) (arc : PackedArc) (end : ℕ) : Type 0 where
  pub line : HasLine text end
  pub kept : is_kept (take end text) ≡ true
  pub item : item_of limits s (fields_of (take end text)) ≡ Ok (Link arc)

-- the arc of a first line of this many bytes, with the one that ends it, was taken in
pub record Took (old : StateData) (text : List ℕ) (len : ℕ) (new : StateData) : Type 0 where
  pub arc : PackedArc
  pub end : ℕ
  pub len_is : len ≡ end + 1
  pub begins : BeginsWithArc old text arc end
  pub after : new ≡ with_item old (Link arc)

-- one was, or none, and then nothing changed
abbrev pub TakesArc : StateData → List ℕ → Option ℕ → StateData → Type 0
TakesArc old text None new = new ≡ old
TakesArc old text (Some len) new = Took old text len new

-- the text begins with an arc line
abbrev pub WantsArc : StateData → List ℕ → Type 0
WantsArc s text = (arc : PackedArc) × (end : ℕ) × BeginsWithArc s text arc end

-- whatever follows the text, the new state has read this many lines more than the old one, and the
-- rest is still to be read
abbrev pub ReadsLines : StateData → List ℕ → StateData → ℕ → List ℕ → Type 0
ReadsLines old text new lines rest = (whole : List ℕ) (next : ℕ) (more : List ℕ) → HasRead limits whole old next (numbered_lines next (text ++ more))
    → HasRead limits whole new (next + lines) (numbered_lines (next + lines) (rest ++ more))

-- whatever follows the text, memory is wanted only where it names nodes
abbrev pub WantsForLines : StateData → List ℕ → Type 0
WantsForLines old text = (whole : List ℕ) (next : ℕ) (more : List ℕ) → HasRead limits whole old next (numbered_lines next (text ++ more))
    → NamesNodes limits whole
