-- Bytes given and taken by one call after another.
use Rattle.std.proofs.Common.{◌≡◌, ◌++◌, ◌+◌, ◌<◌, ℕ, List, [], Option, None, Some, IfSome, Result, Ok, Err, IfErr, length, take, drop, sym, ap, ◌∙◌}
use Rattle.std.proofs.Common.{append-nil, length-append, arith, ◌-◌}
use Rattle.std.proofs.Math.Seq.{take-add}
use Rattle.std.proofs.KnownBytes.{Appends-kept, Appends-trans}
use Rattle.std.proofs.lemmas.List.{take-append-drop, take_rest}
use Rattle.std.specs.Io.KnownBytes.{Appends, Consumes, IsAtEnd, Keeps}
use Rattle.mcf_flows.specs.Codes.{Fault}
use Rattle.mcf_flows.specs.Limits.{limits}
use Rattle.mcf_flows.specs.Network.{Network}
use Rattle.mcf_instance.specs.Reading.{reading}
use Rattle.mcf_choice.specs.declared.choice.Choice.{Choice}
use Rattle.mcf_solver.specs.declared.kind.Kind.{Kind}
use Rattle.mcf_solver.specs.Answering.{AppendsAnswer}
use Rattle.mcf_solver.specs.Running.{ReadsGiven, SendsAnswer, SendsBeginning, TakesBeginning}

-- no more bytes are given than there are
pub consumes-within : (first last : Option (List ℕ)) (bytes : List ℕ) (limit : ℕ)
    → Consumes first last bytes → limit < length bytes → IfSome first (λ xs. limit < length xs)
consumes-within None last bytes limit p q = tt
consumes-within (Some xs) None bytes limit p q = absurd p
consumes-within (Some xs) (Some ys) bytes limit p q = omega (arith, simp length-append at (ap length p))

-- some bytes, and then the end
pub consumes-all : (first next last : Option (List ℕ)) (bytes : List ℕ) → Consumes first next bytes → Consumes next last [] → IsAtEnd last
    → IfSome first (λ xs. xs ≡ bytes)
consumes-all None next last bytes p q end = tt
consumes-all (Some xs) None last bytes p q end = absurd p
consumes-all (Some xs) (Some ys) None bytes p q end = absurd q
consumes-all (Some xs) (Some ys) (Some zs) bytes p q end = p ∙ ap (λ t. bytes ++ t) (q ∙ end) ∙ append-nil bytes

-- a piece from where the last one ended
pub appends-piece : (first next last : Option (List ℕ)) (text : List ℕ) (taken count : ℕ)
    → Appends first next (take taken text) → Appends next last (take count (take (length text - taken) (drop taken text)))
    → Appends first last (take (taken + count) text)
appends-piece first next last text taken count p q =
    let more = take count (drop taken text) in
    let piece = rw (take_rest text taken) at q in
    rw (take-add taken count text) (Appends-trans first next last (take taken text) more p piece)

-- a beginning, and then no more
pub begins : (first next last : Option (List ℕ)) (text : List ℕ) (taken : ℕ)
    → Appends first next (take taken text) → Keeps next last → TakesBeginning first last text
begins first next last text taken p q = record {
  part = take taken text;
  rest = drop taken text;
  whole = sym (take-append-drop taken text);
  taken = Appends-kept first next last (take taken text) p q;
}

-- the text that was appended to nothing is what was sent
pub sent-is-appended : (choice : Choice) (input : List ℕ) (kind : Kind) (before after sent : List ℕ) → before ≡ []
    → (appends : AppendsAnswer choice input kind before after) → sent ≡ after → sent ≡ appends.text
sent-is-appended choice input kind before after sent nothing appends whole =
    whole ∙ appends.appended ∙ ap (λ bytes. bytes ++ appends.text) nothing

-- what is sent of all that was given
pub sends-answer : (choice : Choice) (given old new : Option (List ℕ)) (outcome : Result Network Fault) (before after sent : List ℕ) (kind : Kind)
    → ReadsGiven given outcome → before ≡ []
    → ((input : List ℕ) → outcome ≡ reading limits input → AppendsAnswer choice input kind before after) → sent ≡ after → Appends old new sent
    → SendsAnswer choice given kind old new
sends-answer choice given old new outcome before after sent kind reads nothing answers whole taken =
    let appends = answers reads.input reads.is_read in
    let text = sent-is-appended choice reads.input kind before after sent nothing appends whole in
    record {
      input = reads.input;
      text = appends.text;
      is_given = reads.is_given;
      answer = appends.answer;
      taken = rw (← text) taken;
    }

-- a beginning of what is sent of all that was given
pub sends-beginning : (choice : Choice) (given old new : Option (List ℕ)) (outcome : Result Network Fault) (before after sent : List ℕ) (kind : Kind)
    → ReadsGiven given outcome → before ≡ []
    → ((input : List ℕ) → outcome ≡ reading limits input → AppendsAnswer choice input kind before after) → sent ≡ after → TakesBeginning old new sent
    → SendsBeginning choice given old new
sends-beginning choice given old new outcome before after sent kind reads nothing answers whole taken =
    let appends = answers reads.input reads.is_read in
    let text = sent-is-appended choice reads.input kind before after sent nothing appends whole in
    record {
      input = reads.input;
      kind = kind;
      text = appends.text;
      is_given = reads.is_given;
      answer = appends.answer;
      taken = rw (← text) taken;
    }

-- a fact of each error is one of any error
pub if-err : {A E : Type 0} (result : Result A E) (Q : E → Type 0) (P : Type 0) → P
    → IfErr result (λ error. Q error → P)
if-err (Ok x) Q P p = tt
if-err (Err e) Q P p = λ _. p
