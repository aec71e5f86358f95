-- The lines of a text that comes in pieces.
use Rattle.std.proofs.Common.{◌≡◌, ℕ, ◌+◌, true, false, List, [], ◌∷◌, ◌++◌, refl, sym, ◌∙◌, ap, subst, None, Some, Err, append_assoc, append-nil}
use Rattle.std.specs.Prelude.{IsTrue, Option, is_some}
use Rattle.std.specs.List.{enumerate_from}
use Rattle.std.proofs.lemmas.Bool.{both_ways}
use Rattle.mcf_flows.specs.Codes.{Fault}
use Rattle.mcf_flows.specs.Limits.{limits}
use Rattle.mcf_instance.specs.Memory.{NamesNodes}
use Rattle.mcf_instance.specs.Reading.{reading}
use Rattle.mcf_instance.specs.ReadOn.{HasRead, HasReadOn, HasReadPieces, StateData}
use Rattle.mcf_instance.specs.Private.ReaderState.{empty, finished}
use Rattle.mcf_text.specs.Feed.{Feed, after_piece, FinishesLine}
use Rattle.mcf_text.specs.Lines.{numbered_lines}
use Rattle.mcf_instance.proofs.WholeTexts.{read_all, read_nothing, read_refused}

pub none_unless_some : (o : Option Fault) → is_some o ≡ false → o ≡ None
none_unless_some None e = refl
none_unless_some (Some fault) e = cc

-- the feed of the empty text
abbrev pub no_piece : Feed
no_piece = record { popped = 0; fed = 0; rest = []; has_ended = false }

-- a text, read up to its first finished line
pub on_nothing : HasReadOn limits [] no_piece empty
on_nothing = record { lines_read = λ _ more _. read_nothing more; refused = λ fault e. cc }

-- a piece more, where no line was faulty
pub on_piece : (text piece : List ℕ) (feed fed : Feed) (s : StateData) → s.refusal ≡ None → feed.has_ended ≡ false → fed ≡ after_piece feed piece
    → HasReadOn limits text feed s → HasReadOn limits (text ++ piece) fed s
on_piece text piece feed fed s good is_open is h = subst (λ f. HasReadOn limits (text ++ piece) f s) (sym is) record {
  lines_read = λ _ more _.
      let before = h.lines_read good (piece ++ more) (λ ended. absurd (both_ways feed.has_ended is_open ended)) in
      rw (append_assoc text piece more, append_assoc feed.rest piece more) before;
  refused = λ fault e. cc;
}

-- the end, whether or not a line was faulty
pub on_end : (text : List ℕ) (feed ended : Feed) (s : StateData) → feed.has_ended ≡ false → ended ≡ record feed { has_ended = true }
    → HasReadOn limits text feed s → HasReadOn limits text ended s
on_end text feed ended s is_open is h = subst (λ f. HasReadOn limits text f s) (sym is) record {
  lines_read = λ good more _. h.lines_read good more (λ said. absurd (both_ways feed.has_ended is_open said));
  refused = λ fault e more _. h.refused fault e more (λ said. absurd (both_ways feed.has_ended is_open said));
}

-- ---- one line

-- the line that was popped is the next of the text
pub line_next : (text : List ℕ) (old : Feed) (s : StateData) (number : ℕ) (line rest : List ℕ) → number ≡ old.popped + 1 → FinishesLine old line rest
    → HasReadPieces limits text old s → (more : List ℕ) → (IsTrue old.has_ended → more ≡ [])
    → HasRead limits (text ++ more) s (old.popped + 1) ((number, line) ∷ numbered_lines (number + 1) (rest ++ more))
line_next text old s number line rest is finishes h more none =
    subst (λ n. HasRead limits (text ++ more) s (old.popped + 1) ((n, line) ∷ numbered_lines (n + 1) (rest ++ more))) (sym is)
    (subst (λ lines. HasRead limits (text ++ more) s (old.popped + 1) (enumerate_from (old.popped + 1) lines)) (finishes.joined more none)
    (h more none))

-- the state after it
pub line_read : (text : List ℕ) (old new : Feed) (s t : StateData) (number : ℕ) (line : List ℕ) → number ≡ old.popped + 1 → FinishesLine old line new.rest
    → new.popped ≡ old.popped + 1 → new.has_ended ≡ old.has_ended
    → ((whole : List ℕ) (next : ℕ) (rest : List (ℕ × List ℕ)) → HasRead limits whole s next ((number, line) ∷ rest) → HasRead limits whole t (number + 1) rest)
    → HasReadPieces limits text old s → HasReadPieces limits text new t
line_read text old new s t number line is finishes popped same step h more none =
    let after = step (text ++ more) (old.popped + 1) (numbered_lines (number + 1) (new.rest ++ more))
    (line_next text old s number line new.rest is finishes h more (λ ended. none (same ∙ ended))) in
    subst (λ n. HasRead limits (text ++ more) t (n + 1) (numbered_lines (n + 1) (new.rest ++ more))) (is ∙ sym popped) after

-- memory is wanted for it only where the text names nodes
pub line_wants : (text : List ℕ) (old : Feed) (s : StateData) (number : ℕ) (line rest : List ℕ) → number ≡ old.popped + 1 → FinishesLine old line rest
    → ((whole : List ℕ) (next : ℕ) (behind : List (ℕ × List ℕ)) → HasRead limits whole s next ((number, line) ∷ behind) → NamesNodes limits whole)
    → HasReadPieces limits text old s → NamesNodes limits text
line_wants text old s number line rest is finishes wants h =
    subst (NamesNodes limits) (append-nil text)
    (wants (text ++ []) (old.popped + 1) (numbered_lines (number + 1) (rest ++ [])) (line_next text old s number line rest is finishes h [] (λ _. refl)))

-- the lines read, the last of them with or without a fault
pub on_read : (text : List ℕ) (feed : Feed) (s : StateData) → HasReadPieces limits text feed s → HasReadOn limits text feed s
on_read text feed s h = record {
  lines_read = λ _. h;
  refused = λ fault is more none. read_refused (text ++ more) s (feed.popped + 1) (numbered_lines (feed.popped + 1) (feed.rest ++ more)) fault (h more none) is;
}

-- ---- the end

finished_refused : (s : StateData) (line : ℕ) (fault : Fault) → s.refusal ≡ Some fault → finished s line ≡ Err fault
finished_refused s line fault e = rw e refl

-- what the state gives at the end is what the text stands for
pub on_finished : (text : List ℕ) (feed : Feed) (s : StateData) → (s.refusal ≡ None → feed.rest ≡ []) → HasReadOn limits text feed s
    → finished s (feed.popped + 1) ≡ reading limits text
on_finished text feed s drained h = go s.refusal refl
  where
    go : (o : Option Fault) → s.refusal ≡ o → finished s (feed.popped + 1) ≡ reading limits text
    go None e =
        let all : HasRead limits (text ++ []) s (feed.popped + 1) (numbered_lines (feed.popped + 1) (feed.rest ++ [])) = h.lines_read e [] (λ _. refl) in
        let none : feed.rest ++ [] ≡ [] = append-nil feed.rest ∙ drained e in
        read_all (text ++ []) s (feed.popped + 1)
        (subst (λ rest. HasRead limits (text ++ []) s (feed.popped + 1) (numbered_lines (feed.popped + 1) rest)) none all)
        ∙ ap (reading limits) (append-nil text)
    go (Some fault) e =
        finished_refused s (feed.popped + 1) fault e ∙ sym (h.refused fault e [] (λ _. refl)) ∙ ap (reading limits) (append-nil text)
