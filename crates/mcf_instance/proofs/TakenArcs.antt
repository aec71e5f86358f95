-- Arc lines taken in one after another.
use Rattle.std.proofs.Common.{◌≡◌, ℕ, ◌+◌, ◌≤◌, List, [], ◌∷◌, ◌++◌, length, take, drop, Ok, Some, None}
use Rattle.std.proofs.Common.{refl, sym, ap, subst, ◌∙◌, arith, append_assoc, append-nil, length-append, drop-drop, length-drop}
use Rattle.std.specs.Prelude.{codes, slice_index_or}
use Rattle.std.specs.List.{enumerate_from}
use Rattle.mcf_text.specs.Feed.{BeginsWithLines, Feed, after_lines}
use Rattle.mcf_text.specs.Fields.{fields_of}
use Rattle.mcf_text.specs.Lines.{lines_of, numbered_lines}
use Rattle.mcf_text.specs.Row.{row_of}
use Rattle.mcf_text.proofs.LinesLemmas.{length-numbered_lines}
use Rattle.mcf_flows.specs.declared.arc.PackedArc.{PackedArc}
use Rattle.mcf_instance.specs.declared.reader.line.ArcNumbers.{ArcNumbers}
use Rattle.mcf_instance.specs.declared.reader.line.Header.{Header}
use Rattle.mcf_instance.specs.declared.reader.line.Item.TheVariants.{Link}
use Rattle.mcf_flows.specs.Limits.{limits}
use Rattle.mcf_instance.specs.Memory.{NamesNodes}
use Rattle.mcf_instance.specs.ReadOn.{HasRead, HasReadPieces, Stands, StateData}
use Rattle.mcf_instance.specs.Private.LineReader.{arc_line, arc_tests}
use Rattle.mcf_instance.specs.Private.PlainLines.{HasLine, SaysArc}
use Rattle.mcf_instance.specs.Private.ReaderSound.{ItemFits}
use Rattle.mcf_instance.specs.Private.ReaderState.{after_row, item_of, outcome_grows, with_item}
use Rattle.mcf_instance.specs.Private.TakenArcs.{BeginsWithArc, ReadsLines, Took, WantsArc, WantsForLines}
use Rattle.mcf_instance.proofs.FittingItems.{item_fits}
use Rattle.mcf_instance.proofs.NamedNodes.{step_names_nodes, text_names_nodes}
use Rattle.mcf_instance.proofs.Simulation.{after_judged, stands_after}
use Rattle.mcf_instance.proofs.WholeTexts.{read_kept}

-- ---- one line

-- a line that begins with `a` says what its arc says
item_arc : (s : StateData) (h : Header) (fields : List (List ℕ)) (a : PackedArc) → s.header ≡ Some h → slice_index_or fields 0 [] ≡ codes "a"
    → arc_line limits (Some h) (length s.arcs) s.total s.listed fields ≡ Ok a → item_of limits s fields ≡ Ok (Link a)
unfolding item_of
item_arc s h fields a some word is = rw (word, some, is) refl

pub begins_with_arc : (s : StateData) (h : Header) (text : List ℕ) (numbers : ArcNumbers) (end : ℕ) (a : PackedArc) → s.header ≡ Some h
    → SaysArc h.problem text numbers end → arc_tests limits h (length s.arcs) s.total s.listed numbers ≡ Ok a → BeginsWithArc s text a end
begins_with_arc s h text numbers end a some said tested = record {
  line = said.line;
  kept = said.kept;
  item = item_arc s h (fields_of (take end text)) a some said.word (said.says h (length s.arcs) s.total s.listed refl ∙ tested);
}

pub arc_fits : (s : StateData) (text : List ℕ) (a : PackedArc) (end : ℕ) → BeginsWithArc s text a end → ItemFits limits s (Link a)
arc_fits s text a end begins = item_fits s (fields_of (take end text)) (Link a) begins.item

-- the line is the next of what is read
line_first : (whole : List ℕ) (s : StateData) (next : ℕ) (text more : List ℕ) (end : ℕ) → HasLine text end
    → HasRead limits whole s next (numbered_lines next (text ++ more))
    → HasRead limits whole s next ((next, take end text) ∷ numbered_lines (next + 1) (drop (end + 1) text ++ more))
line_first whole s next text more end line h = subst (λ lines. HasRead limits whole s next (enumerate_from next lines)) (line.joined more) h

arc_read : (s t : StateData) (text : List ℕ) (a : PackedArc) (end : ℕ) → s.refusal ≡ None → BeginsWithArc s text a end → t ≡ with_item s (Link a)
    → ReadsLines s text t 1 (drop (end + 1) text)
arc_read s t text a end good begins is whole next more h =
    let x : ℕ × List ℕ = (next, take end text) in
    let after : t ≡ after_row limits s (row_of x) = is ∙ sym (after_judged s (row_of x) (Ok (Link a)) good begins.item) in
    read_kept whole s t next x (numbered_lines (next + 1) (drop (end + 1) text ++ more)) (line_first whole s next text more end begins.line h) begins.kept
    (λ lines stands. subst (λ u. Stands limits u (lines ++ row_of x ∷ [])) (sym after) (stands_after s lines (row_of x) stands))

arc_wants : (s : StateData) (text : List ℕ) (a : PackedArc) (end : ℕ) → s.refusal ≡ None → BeginsWithArc s text a end → WantsForLines s text
arc_wants s text a end good begins whole next more h =
    let x : ℕ × List ℕ = (next, take end text) in
    text_names_nodes whole s next x (numbered_lines (next + 1) (drop (end + 1) text ++ more)) (line_first whole s next text more end begins.line h)
    (λ lines stands. step_names_nodes s lines (row_of x) stands good (ap outcome_grows begins.item)) begins.kept

-- ---- one line after others

-- the lines that were read so far, of a text
pub record HasTaken (old : StateData) (text : List ℕ) (new : StateData) (lines bytes : ℕ) : Type 0 where
  pub good : new.refusal ≡ None
  pub header : new.header ≡ old.header
  pub begins : BeginsWithLines text lines bytes
  pub read : ReadsLines old text new lines (drop bytes text)

pub none_taken : (s : StateData) (text : List ℕ) → s.refusal ≡ None → HasTaken s text s 0 0
none_taken s text good = record {
  good = good;
  header = refl;
  begins = record { inside = omega arith; few = omega arith; front = []; count = refl; joined = λ more. refl };
  read = λ whole next more h.
      let none : next ≡ next + 0 = omega arith in subst (λ n. HasRead limits whole s n (numbered_lines n (text ++ more))) none h;
}

-- the lines and one line more
begins_longer : (text : List ℕ) (lines bytes end : ℕ) → BeginsWithLines text lines bytes → HasLine (drop bytes text) end
    → BeginsWithLines text (lines + 1) (bytes + (end + 1))
begins_longer text lines bytes end begins line =
    let rest = length-drop bytes text in
    record {
      inside = omega (arith, rest, line.inside, begins.inside);
      few = omega (arith, begins.few);
      front = begins.front ++ take end (drop bytes text) ∷ [];
      count = length-append begins.front (take end (drop bytes text) ∷ []) ∙ ap (λ n. n + 1) begins.count;
      joined = λ more.
          begins.joined more ∙ ap (λ ls. begins.front ++ ls) (line.joined more)
          ∙ ap (λ bs. begins.front ++ take end (drop bytes text) ∷ lines_of (bs ++ more)) (drop-drop (end + 1) bytes text)
          ∙ sym (append_assoc begins.front (take end (drop bytes text) ∷ []) (lines_of (drop (bytes + (end + 1)) text ++ more)));
    }

pub one_taken : (old s t : StateData) (text : List ℕ) (lines bytes len : ℕ) → HasTaken old text s lines bytes → Took s (drop bytes text) len t
    → HasTaken old text t (lines + 1) (bytes + len)
one_taken old s t text lines bytes len taken took =
    let end = took.end in
    subst (λ n. HasTaken old text t (lines + 1) (bytes + n)) (sym took.len_is) record {
      good = ap (λ u. u.refusal) took.after ∙ taken.good;
      header = ap (λ u. u.header) took.after ∙ taken.header;
      begins = begins_longer text lines bytes end taken.begins took.begins.line;
      read = λ whole next more h.
          let before = taken.read whole next more h in
          let one = arc_read s t (drop bytes text) took.arc end taken.good took.begins took.after whole (next + lines) more before in
          let count : next + lines + 1 ≡ next + (lines + 1) = omega arith in
          subst (λ n. HasRead limits whole t n (numbered_lines n (drop (bytes + (end + 1)) text ++ more))) count
          (subst (λ bs. HasRead limits whole t (next + lines + 1) (numbered_lines (next + lines + 1) (bs ++ more))) (drop-drop (end + 1) bytes text) one);
    }

-- none was taken any more
pub none_more : (old s t : StateData) (text : List ℕ) (lines bytes : ℕ) → HasTaken old text s lines bytes → t ≡ s → HasTaken old text t lines bytes
none_more old s t text lines bytes taken same = subst (λ u. HasTaken old text u lines bytes) (sym same) taken

pub wants_more : (old s : StateData) (text : List ℕ) (lines bytes : ℕ) → HasTaken old text s lines bytes → WantsArc s (drop bytes text) → WantsForLines old text
wants_more old s text lines bytes taken (a, end, begins) whole next more h =
    arc_wants s (drop bytes text) a end taken.good begins whole (next + lines) more (taken.read whole next more h)

-- ---- a text that comes in pieces

pub pieces_read : (text : List ℕ) (old new : Feed) (s t : StateData) (lines bytes : ℕ) → new ≡ after_lines old lines bytes
    → ReadsLines s old.rest t lines (drop bytes old.rest) → HasReadPieces limits text old s → HasReadPieces limits text new t
pieces_read text old new s t lines bytes is reads h =
    subst (λ feed. HasReadPieces limits text feed t) (sym is)
    (λ more none.
    subst (λ n. HasRead limits (text ++ more) t n (numbered_lines n (drop bytes old.rest ++ more))) (omega arith)
    (reads (text ++ more) (old.popped + 1) more (h more none)))

pub pieces_want : (text : List ℕ) (old : Feed) (s : StateData) → WantsForLines s old.rest → HasReadPieces limits text old s → NamesNodes limits text
pieces_want text old s wants h =
    subst (NamesNodes limits) (append-nil text) (wants (text ++ []) (old.popped + 1) [] (h [] (λ _. refl)))

-- ---- a whole text

pub next_line : (text : List ℕ) (s : StateData) (next : ℕ) (rest line others : List ℕ) → lines_of rest ≡ line ∷ lines_of others
    → HasRead limits text s next (numbered_lines next rest) → HasRead limits text s next ((next, line) ∷ numbered_lines (next + 1) others)
next_line text s next rest line others is h = subst (λ lines. HasRead limits text s next (enumerate_from next lines)) is h

-- a text has no more lines than bytes
pub read_few : (text : List ℕ) (s : StateData) (next : ℕ) (rest : List (ℕ × List ℕ)) → HasRead limits text s next rest → (1 ≤ next) × (next ≤ length text + 1)
read_few text s next rest h =
    let few = length-numbered_lines 1 text in
    let long = ap length h.joined ∙ length-append h.before rest in
    (omega (arith, h.next_is), omega (arith, h.next_is, few, long))

pub arcs_after : (text : List ℕ) (s t : StateData) (next lines : ℕ) (others rest : List ℕ) → ReadsLines s others t lines rest
    → HasRead limits text s (next + 1) (numbered_lines (next + 1) others)
    → HasRead limits text t (next + (1 + lines)) (numbered_lines (next + (1 + lines)) rest)
arcs_after text s t next lines others rest reads h =
    let before : HasRead limits text s (next + 1) (numbered_lines (next + 1) (others ++ [])) =
    subst (λ bs. HasRead limits text s (next + 1) (numbered_lines (next + 1) bs)) (sym (append-nil others)) h in
    let count : next + 1 + lines ≡ next + (1 + lines) = omega arith in
    subst (λ n. HasRead limits text t n (numbered_lines n rest)) count
    (subst (λ bs. HasRead limits text t (next + 1 + lines) (numbered_lines (next + 1 + lines) bs)) (append-nil rest) (reads text (next + 1) [] before))

pub wants_after : (text : List ℕ) (s : StateData) (next : ℕ) (others : List ℕ) → WantsForLines s others
    → HasRead limits text s (next + 1) (numbered_lines (next + 1) others) → NamesNodes limits text
wants_after text s next others wants h =
    wants text (next + 1) [] (subst (λ bs. HasRead limits text s (next + 1) (numbered_lines (next + 1) bs)) (sym (append-nil others)) h)

pub read_end : (text : List ℕ) (s : StateData) (next : ℕ) (rest : List ℕ) → rest ≡ [] → HasRead limits text s next (numbered_lines next rest)
    → HasRead limits text s next []
read_end text s next rest none h = subst (λ bs. HasRead limits text s next (numbered_lines next bs)) none h
