-- A source read piece by piece, and the answer to what was read.
use Rattle.std.proofs.Common.{◌≡◌, ◌++◌, ◌+◌, ◌<◌, ◌≤◌, ℕ, List, Option, IfSome, Result, Ok, Err, length, take, sym, ◌∙◌, subst, refl, arith, length-append}
use Rattle.std.proofs.KnownBytes.{Consumes-trans}
use Rattle.std.proofs.Math.Nat.{lt_of_not-le}
use Rattle.std.specs.Io.KnownBytes.{Consumes}
use Rattle.mcf_answer.specs.Spelling.{IsAnswer, Spells}
use Rattle.mcf_answer.specs.Written.{written}
use Rattle.mcf_answer.specs.declared.answers.Answer.{Answer}
use Rattle.mcf_answer.specs.declared.answers.Answer.TheVariants.{Flow, Sparse, Blocked, Refused}
use Rattle.mcf_checker.specs.Correct.{IsCorrect, IsRight}
use Rattle.mcf_checker.specs.Laws.{CorrectAnswersAreAccepted}
use Rattle.mcf_flows.specs.Codes.{Fault}
use Rattle.mcf_instance.specs.Feeding.{ReaderData, StandsFor}
use Rattle.mcf_flows.specs.Limits.{limits}
use Rattle.mcf_flows.specs.Network.{Network}
use Rattle.mcf_instance.specs.Reading.{reading}
use Rattle.mcf_text.specs.declared.fault.FeedFault.{FeedFault}
use Rattle.mcf_text.specs.declared.fault.FeedFault.TheVariants.{TooLong}
use Rattle.mcf_choice.specs.declared.choice.Choice.{Choice}
use Rattle.mcf_solver.specs.declared.kind.Kind.{Kind}
use Rattle.mcf_solver.specs.Answering.{AppendsAnswer, IsAnswerTo, IsOwed, answer_kind}
use Rattle.mcf_solver.specs.Forms.{HasForm}
use Rattle.mcf_solver.specs.Making.{HasMadeFlow, IsMadeBy}
use Rattle.mcf_solver.specs.Private.Shaping.{MadeFlowsAreShaped}
use Rattle.mcf_solver.specs.Running.{text_limit}
use Rattle.mcf_solver.proofs.DeviceLaws.{consumes-within}

-- the reader stands for what the source gave so far
pub record HasTaken (reader : ReaderData) (first last : Option (List ℕ)) : Type 0 where
  pub text : List ℕ
  pub stands : StandsFor limits reader text
  pub in_range : length text ≤ text_limit
  pub consumed : Consumes first last text

-- a piece that was taken was none too many
pub not-over : {A : Type 0} (answer : Result A FeedFault) (done : A) (bytes : ℕ) → answer ≡ Ok done → (text_limit < bytes → answer ≡ Err TooLong)
    → bytes ≤ text_limit
not-over answer done bytes ok over =
    let below : bytes < text_limit + 1 = lt_of_not-le (λ lt. refused (sym ok ∙ over (omega (arith, lt)))) in
    omega (arith, below)
  where
    refused : Ok done ≡ Err TooLong → ⊥
    refused e = cc

module _ (reader : ReaderData) (first next last : Option (List ℕ)) (piece : List ℕ) (count : ℕ)
    (taken : HasTaken reader first next) (more : Consumes next last (take count piece)) where
  -- a piece too many
  pub taken-over : text_limit < length taken.text + length (take count piece) → IfSome first (λ bytes. text_limit < length bytes)
  taken-over over =
      consumes-within first last (taken.text ++ take count piece) text_limit (Consumes-trans first next last taken.text (take count piece) taken.consumed more)
      (omega (arith, length-append taken.text (take count piece)))

  -- a piece more
  pub taken-more : (after : ReaderData) → ((text : List ℕ) → StandsFor limits reader text → StandsFor limits after (text ++ take count piece))
      → length taken.text + length (take count piece) ≤ text_limit → HasTaken after first last
  taken-more after stands within = record {
    text = taken.text ++ take count piece;
    stands = stands taken.text taken.stands;
    in_range = omega (arith, length-append taken.text (take count piece));
    consumed = Consumes-trans first next last taken.text (take count piece) taken.consumed more;
  }

-- ---- the answer

right_of : (read : Result Network Fault) (answer : Answer) → IsOwed read answer → IsRight read answer
right_of (Err fault) (Refused r) owed = owed
right_of (Ok g) (Flow a) owed = owed.right
right_of (Ok g) (Sparse a) owed = owed.right
right_of (Ok g) (Blocked a) owed = owed.right
right_of (Err fault) (Flow a) owed = owed
right_of (Err fault) (Sparse a) owed = owed
right_of (Err fault) (Blocked a) owed = owed
right_of (Ok g) (Refused r) owed = owed

-- the text that is written of an answer that is owed
pub answers_to : (choice : Choice) (input : List ℕ) (answer : Answer) (kind : Kind) → CorrectAnswersAreAccepted → MadeFlowsAreShaped
    → IsAnswer answer → Spells (written answer) answer → IsOwed (reading limits input) answer
    → HasMadeFlow (IsMadeBy choice) (reading limits input) answer → HasForm choice.form (reading limits input) answer → kind ≡ answer_kind answer
    → IsAnswerTo choice input kind (written answer)
answers_to choice input answer kind accepted shaped in_range spells owed made formed is_kind =
    let correct : IsCorrect input (written answer) = record { answer = answer; spelled = spells; right = right_of (reading limits input) answer owed } in
    record {
      answer = answer;
      in_range = in_range;
      written = refl;
      owed = owed;
      made = made;
      shaped = shaped choice (reading limits input) answer made;
      formed = formed;
      is_kind = is_kind;
      correct = correct;
      accepted = (accepted input (written answer)).1 correct;
    }

-- what is written of the answer that is owed for what was read
pub answered : (choice : Choice) (outcome : Result Network Fault) (input : List ℕ) (answer : Answer) (kind : Kind) (old new : List ℕ)
    → CorrectAnswersAreAccepted → MadeFlowsAreShaped → outcome ≡ reading limits input → IsAnswer answer → Spells (written answer) answer
    → IsOwed outcome answer → HasMadeFlow (IsMadeBy choice) outcome answer → HasForm choice.form outcome answer → kind ≡ answer_kind answer
    → new ≡ old ++ written answer
    → AppendsAnswer choice input kind old new
answered choice outcome input answer kind old new accepted shaped is in_range spells owed made formed is_kind appended = record {
  text = written answer;
  appended = appended;
  answer = answers_to choice input answer kind accepted shaped in_range spells
      (subst (λ r. IsOwed r answer) is owed)
      (subst (λ r. HasMadeFlow (IsMadeBy choice) r answer) is made)
      (subst (λ r. HasForm choice.form r answer) is formed)
      is_kind;
}
