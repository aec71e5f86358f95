-- Runs of the command.
use Rattle.std.proofs.Common.{◌≡◌, ℕ, ◌<◌, Bor, IfErr, IfOk, OnOk, if◌then◌else◌, List, [], Result, Ok, Err, Option, length, map, slice_index_or}
use Rattle.std.proofs.Common.{refl, sym, ap, subst, ◌∙◌}
use Rattle.std.proofs.lemmas.List.{get_or-map}
use Rattle.std.specs.Fn.{Called, CalledAt, Mut}
use Rattle.std.specs.Io.KnownBytes.{Appends}
use Rattle.mcf_checker.specs.declared.command.Failure.{Failure}
use Rattle.mcf_checker.specs.declared.command.FileFault.{FileFault}
use Rattle.mcf_checker.specs.declared.command.FileFault.TheVariants.{NoMemory, Unreadable}
use Rattle.mcf_checker.specs.Private.Failures.{failure_line, failure_of}
use Rattle.mcf_checker.specs.Judging.{accepts, verdict}
use Rattle.mcf_checker.specs.Lines.{file_line}
use Rattle.mcf_checker.specs.Printed.{printed_line}
use Rattle.mcf_checker.specs.Runs.{AsksForFiles, AsksOnce, JudgesAndPrints}

-- a call at the text of the word at a place
pub called-at_word : {F R S : Type 0} (calls : Mut F (Bor (List ℕ) × Unit {0}) R) (text_of : S → List ℕ) (words : List S) (place : ℕ)
    (word : S) (name : Bor (List ℕ)) (before after : F) (result given : R)
    → place < length words → word ≡ slice_index_or words place word → name.now ≡ text_of word
    → Called calls before (name, tt) result after → result ≡ given
    → CalledAt calls before (slice_index_or (map text_of words) place []) given after
called-at_word calls text_of words place word name before after result given small is named call gave =
    record {
      shown = name;
      shows = named ∙ ap text_of is ∙ sym (get_or-map text_of words place word [] small);
      called = subst (λ r. Called calls before (name, tt) r after) gave call;
    }

-- two files read one after the other, and then the status and the line of the verdict on their
-- bytes
pub judges-from_parts : {F V E X : Type 0} (calls : Mut F (Bor (List ℕ) × Unit {0}) (Result V E)) (bytes : V → List ℕ)
    (read between last : F) (words : List (List ℕ)) (input text : V) (outcome : Result ℕ X) (old new : Option (List ℕ))
    → CalledAt calls read (slice_index_or words 1 []) (Ok input) between
    → CalledAt calls between (slice_index_or words 2 []) (Ok text) last
    → IfOk outcome (λ status. status ≡ (if accepts (verdict (bytes input) (bytes text)) then 0 else 1))
    → OnOk outcome (Appends old new (printed_line (verdict (bytes input) (bytes text))))
    → IfOk outcome (λ status. JudgesAndPrints calls bytes read words status old new)
judges-from_parts calls bytes read between last words input text (Ok status) old new first second is printed =
    record { input = input; text = text; between = between; last = last; input_read = first; text_read = second; status_is = is; printed_is = printed }
judges-from_parts calls bytes read between last words input text (Err fault) old new first second is printed = tt

-- which files are asked for: the first couldn't be read, or the second couldn't, or both were read
module _ {F V E : Type 0} (calls : Mut F (Bor (List ℕ) × Unit {0}) (Result V E)) (read between : F) (words : List (List ℕ)) (of_input of_answer : E → Type 0)
    (of_both : V → V → Type 0) where
  pub asks-from_input : (fault : E) → CalledAt calls read (slice_index_or words 1 []) (Err fault) between → of_input fault
      → AsksForFiles calls read words of_input of_answer of_both
  asks-from_input fault first holds =
      record { given = Err fault; between = between; called = first; outcome = holds }

  pub asks-from_answer : (last : F) (input : V) (fault : E) → CalledAt calls read (slice_index_or words 1 []) (Ok input) between
      → CalledAt calls between (slice_index_or words 2 []) (Err fault) last → of_answer fault → AsksForFiles calls read words of_input of_answer of_both
  asks-from_answer last input fault first second holds =
      record { given = Ok input; between = between; called = first; outcome = record { given = Err fault; last = last; called = second; outcome = holds } }

  pub asks-from_both : (last : F) (input text : V) → CalledAt calls read (slice_index_or words 1 []) (Ok input) between
      → CalledAt calls between (slice_index_or words 2 []) (Ok text) last → of_both input text → AsksForFiles calls read words of_input of_answer of_both
  asks-from_both last input text first second holds =
      record { given = Ok input; between = between; called = first; outcome = record { given = Ok text; last = last; called = second; outcome = holds } }

-- the state of the reader afterwards
module _ {F V E : Type 0} (calls : Mut F (Bor (List ℕ) × Unit {0}) (Result V E)) (read between : F) (words : List (List ℕ)) where
  pub once-from_input : (fault : E) → CalledAt calls read (slice_index_or words 1 []) (Err fault) between → AsksOnce calls read words between
  once-from_input fault first = record { given = Err fault; between = between; called = first; outcome = refl }

  pub once-from_both : (last : F) (input : V) (answer : Result V E) → CalledAt calls read (slice_index_or words 1 []) (Ok input) between
      → CalledAt calls between (slice_index_or words 2 []) answer last → AsksOnce calls read words last
  once-from_both last input answer first second = record { given = Ok input; between = between; called = first; outcome = (answer, second) }

-- what is said of a file that wasn't read
pub line_of_fault : (failure unreadable : Failure) (fault : FileFault) → failure ≡ failure_of fault unreadable
    → failure_line failure ≡ file_line (failure_line unreadable) fault
line_of_fault failure unreadable NoMemory e = ap failure_line e
line_of_fault failure unreadable Unreadable e = ap failure_line e

-- each reason of a failure is one of any result
pub if-failed : {A E : Type 0} (result : Result A E) (P Q : E → Type 0) → ((e : E) → P e → Q e) → IfErr result P → IfErr result Q
if-failed (Ok x) P Q h p = tt
if-failed (Err e) P Q h p = h e p
