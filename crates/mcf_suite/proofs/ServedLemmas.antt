-- What a run of the command leaves.
use Rattle.std.proofs.Common.{◌≡◌, ◌≢◌, ◌⊎◌, ◌∙◌, inl, inr, refl, subst, sym, ℕ, List, [], IfErr, IfOk, OnErr, OnOk, Option, Some, None, Result, Ok, Err, Bor}
use Rattle.std.specs.Io.KnownBytes.{Appends}
use Rattle.std.specs.Result.{IsErrAnd}
use Rattle.clap.specs.Words.{App, HasKind, IsAmong, Kinds, Text, fault_of, kind_of}
use Rattle.clap.specs.declared.error.Error.{Error}
use Rattle.clap.specs.declared.error.kind.ErrorKind.{ErrorKind}
use Rattle.clap.specs.declared.error.kind.ErrorKind.TheVariants.{DisplayHelp, DisplayVersion, OutOfMemory}
use Rattle.mcf_asking.specs.Asking.{Asks, IsMcf}
use Rattle.mcf_asking.specs.declared.asking.Asked.{Asked}
use Rattle.mcf_solver.specs.declared.fault.RunFault.{RunFault}
use Rattle.mcf_solver.specs.declared.fault.RunFault.TheVariants.{Read, Write, NoMemory, TooLong}
use Rattle.mcf_solver.specs.Devices.{CountsOneFailure}
use Rattle.mcf_solver.specs.Running.{IsTooLong, TakesBeginning}
use Rattle.mcf_suite.specs.declared.serving.Failure.{Failure}
use Rattle.mcf_suite.specs.declared.serving.Failure.TheVariants.{Usage, Open, Run}
use Rattle.mcf_suite.specs.Private.Failing.{IsFailure, IsHelpFailure, IsRunFailure, IsShown, IsShownInPart, failure_text}
use Rattle.mcf_suite.specs.Serving.{Answers, AnswersInPart, AsksToSolve, GivesBytes, IsAskedFor, IsReason, IsSource, IsUnopened, Serves, ServesInPart, Tells}
use Rattle.mcf_suite.specs.Serving.{fault_line}

-- a kind that an error has, where it isn't lack of memory
kind_among : (kind : ErrorKind) (kinds : Kinds) (e : Error) → kind ≢ OutOfMemory → kind_of e ≡ kind → HasKind kinds e → IsAmong kind kinds
kind_among kind kinds e other is (inl memory) = absurd (other (sym is ∙ memory))
kind_among kind kinds e other is (inr among) = subst (λ k. IsAmong k kinds) is among

-- words that ask for help or for the version
pub help_is_served : {E : Type 0} (words : List Text) (Gives : Option (Bor Text) → Option (List ℕ) → Type 0) (app : App) (e : Error)
    (r : Result ℕ E) (old new : Option (List ℕ)) → IsMcf app → HasKind (fault_of app words) e
    → IfOk r (λ status. status ≡ 0) → OnOk r (IsShown (kind_of e) old new) → IfOk r (λ status. Serves words Gives status old new)
help_is_served words Gives app e (Ok status) old new is_mcf has is_zero (inl help) = inr (inl (record {
  asked = record { app = app; is_mcf = is_mcf; among = kind_among DisplayHelp (fault_of app words) e (λ bad. cc) help.0 has };
  is_status = is_zero;
  text = help.1.0;
  taken = help.1.1;
}))
help_is_served words Gives app e (Ok status) old new is_mcf has is_zero (inr version) = inr (inr (record {
  asked = record { app = app; is_mcf = is_mcf; among = kind_among DisplayVersion (fault_of app words) e (λ bad. cc) version.0 has };
  is_status = is_zero;
  taken = version.1;
}))
help_is_served words Gives app e (Err f) old new is_mcf has is_zero shown = tt

-- words that ask for help or for the version, where writing failed
shown_in_part : (words : List Text) (Gives : Option (Bor Text) → Option (List ℕ) → Type 0) (app : App) (e : Error) (old new : Option (List ℕ)) → IsMcf app
    → HasKind (fault_of app words) e → IsShownInPart (kind_of e) old new → ServesInPart words Gives old new
shown_in_part words Gives app e old new is_mcf has (inl help) = inr (inl (record {
  asked = record { app = app; is_mcf = is_mcf; among = kind_among DisplayHelp (fault_of app words) e (λ bad. cc) help.0 has };
  text = help.1.0;
  taken = help.1.1;
}))
shown_in_part words Gives app e old new is_mcf has (inr version) = inr (inr (record {
  asked = record { app = app; is_mcf = is_mcf; among = kind_among DisplayVersion (fault_of app words) e (λ bad. cc) version.0 has };
  taken = version.1;
}))

-- words without a fault that ask for this
pub asks_to_solve : {words : List Text} {of_asked : Asked → Type 0} (app : App) (asked : Asked) → IsMcf app → fault_of app words ≡ []
    → Asks app words asked → of_asked asked → AsksToSolve words of_asked
asks_to_solve app asked is_mcf faultless asks holds =
    record { app = app; is_mcf = is_mcf; faultless = faultless; asked = asked; asks = asks; holds = holds }

-- what is opened is the source of a file that is named
pub source_opened : {S : Type 0} (input input' source after : S) (Opens : Text → Option S → Type 0) (file : Option (Bor Text)) (name : Bor Text)
    → file ≡ Some name → Opens name.now (Some source) → IsSource input input' Opens file source after
source_opened input input' source after Opens file name named opened =
    subst (λ (f : Option (Bor Text)). IsSource input input' Opens f source after) (sym named) opened

-- the input is the source where no file is named
pub source_lent : {S : Type 0} (input input' : S) (Opens : Text → Option S → Type 0) (file : Option (Bor Text)) → file ≡ None
    → IsSource input input' Opens file input input'
source_lent input input' Opens file unnamed =
    subst (λ (f : Option (Bor Text)). IsSource input input' Opens f input input') (sym unnamed) (refl, refl)

-- a file that is named, for which the opener was asked
pub asked_for : {S : Type 0} (Opens : Text → Option S → Type 0) (file : Option (Bor Text)) (name : Bor Text) (given : Option S)
    → file ≡ Some name → Opens name.now given → IsAskedFor Opens file
asked_for Opens file name given named opened = subst (λ (f : Option (Bor Text)). IsAskedFor Opens f) (sym named) (given, opened)

-- and gave nothing
pub unopened : {S : Type 0} (Opens : Text → Option S → Type 0) (file : Option (Bor Text)) (name : Bor Text)
    → file ≡ Some name → Opens name.now None → IsUnopened Opens file
unopened Opens file name named opened = subst (λ (f : Option (Bor Text)). IsUnopened Opens f) (sym named) opened

-- words that aren't taken: they ask for help or for the version, which can't be written, or have
-- another fault
pub help_failed : {S : Type 0} (remaining : S → Option (List ℕ)) (failures : S → ℕ) (input input' : S) (Opens : Text → Option S → Type 0) (words : List Text)
    (Gives : Option (Bor Text) → Option (List ℕ) → Type 0) (app : App) (e : Error) (r : Result ℕ Failure) (old new : Option (List ℕ))
    (untouched failed : Type 0) → IsMcf app → HasKind (fault_of app words) e
    → IfErr r (IsHelpFailure (kind_of e) untouched (failed × IsShownInPart (kind_of e) old new))
    → IfErr r (IsFailure remaining failures input input' Opens words untouched (failed × ServesInPart words Gives old new))
help_failed remaining failures input input' Opens words Gives app e (Ok status) old new untouched failed is_mcf has h = tt
help_failed remaining failures input input' Opens words Gives app e (Err (Usage text)) old new untouched failed is_mcf has h =
    (h.0, record { kind = kind_of e; no_help = h.1.1; no_version = h.1.2; fault = record { app = app; is_mcf = is_mcf; among = other has } })
  where
    other : HasKind (fault_of app words) e → IsAmong (kind_of e) (fault_of app words)
    other (inl memory) = absurd (h.1.0 memory)
    other (inr among) = among
help_failed remaining failures input input' Opens words Gives app e (Err Open) old new untouched failed is_mcf has h = absurd h
help_failed remaining failures input input' Opens words Gives app e (Err (Run Read)) old new untouched failed is_mcf has h = absurd h
help_failed remaining failures input input' Opens words Gives app e (Err (Run Write)) old new untouched failed is_mcf has h =
    (h.0, shown_in_part words Gives app e old new is_mcf has h.1)
help_failed remaining failures input input' Opens words Gives app e (Err (Run NoMemory)) old new untouched failed is_mcf has h = h
help_failed remaining failures input input' Opens words Gives app e (Err (Run TooLong)) old new untouched failed is_mcf has h = absurd h

-- a run that fails leaves the sink as it is, unless writing on it failed
pub run_failed : (given : Option (List ℕ)) (before after : ℕ) (fault : RunFault) (r : Result ℕ Failure) (untouched failed : Type 0)
    → IsErrAnd r (λ failure. failure ≡ Run fault) → (fault ≡ Read → CountsOneFailure before after) → (fault ≡ TooLong → IsTooLong given)
    → (fault ≡ Write → failed) → (fault ≢ Write → untouched) → IfErr r (IsRunFailure given before after untouched failed)
run_failed given before after fault (Ok status) untouched failed gave read long write other = tt
run_failed given before after fault (Err failure) untouched failed gave read long write other =
    subst (IsRunFailure given before after untouched failed) (sym gave) (of fault read long write other)
  where
    of : (f : RunFault) → (f ≡ Read → CountsOneFailure before after) → (f ≡ TooLong → IsTooLong given)
        → (f ≡ Write → failed) → (f ≢ Write → untouched) → IsRunFailure given before after untouched failed (Run f)
    of Read read long write other = (other (λ e. cc), read refl)
    of Write read long write other = write refl
    of NoMemory read long write other = other (λ e. cc)
    of TooLong read long write other = (other (λ e. cc), long refl)

-- a run fails once at most
pub failed_once : (before after : ℕ) (fault : RunFault) → (fault ≡ Read → CountsOneFailure before after) → (fault ≢ Read → after ≡ before)
    → (after ≡ before) ⊎ CountsOneFailure before after
failed_once before after Read read other = inr (read refl)
failed_once before after Write read other = inl (other (λ e. cc))
failed_once before after NoMemory read other = inl (other (λ e. cc))
failed_once before after TooLong read other = inl (other (λ e. cc))

-- words that ask to solve what a source gives
module _ {S : Type 0} (remaining : S → Option (List ℕ)) (failures : S → ℕ) (input input' : S) (Opens : Text → Option S → Type 0) (words : List Text)
    (app : App) (asked : Asked) (is_mcf : IsMcf app) (faultless : fault_of app words ≡ []) (asks : Asks app words asked) (source after : S)
    (is_source : IsSource input input' Opens asked.file source after) where
  pub served_from : (r : Result ℕ Failure) (old new : Option (List ℕ)) → IfOk r (λ status. Answers asked.choice (remaining source) status old new)
      → IfOk r (λ status. Serves words (GivesBytes remaining input input' Opens) status old new)
  served_from (Ok status) old new answered =
      inl (asks_to_solve app asked is_mcf faultless asks (remaining source, (source, after, is_source, refl), answered))
  served_from (Err failure) old new answered = tt

  pub failed_from : (r : Result ℕ Failure) (old new : Option (List ℕ)) (untouched failed : Type 0)
      → IfErr r (IsRunFailure (remaining source) (failures source) (failures after) untouched (failed × AnswersInPart asked.choice (remaining source) old new))
      → IfErr r (IsFailure remaining failures input input' Opens words untouched
      (failed × ServesInPart words (GivesBytes remaining input input' Opens) old new))
  failed_from (Ok status) old new untouched failed h = tt
  failed_from (Err (Usage text)) old new untouched failed h = absurd h
  failed_from (Err Open) old new untouched failed h = absurd h
  failed_from (Err (Run Read)) old new untouched failed h =
      (h.0, asks_to_solve app asked is_mcf faultless asks (source, after, is_source, h.1))
  failed_from (Err (Run Write)) old new untouched failed h =
      (h.0, inl (asks_to_solve app asked is_mcf faultless asks (remaining source, (source, after, is_source, refl), h.1)))
  failed_from (Err (Run NoMemory)) old new untouched failed h = h
  failed_from (Err (Run TooLong)) old new untouched failed h =
      (h.0, asks_to_solve app asked is_mcf faultless asks (source, after, is_source, h.1))

-- why there is no answer: writing on the sink failed; or it is as it was, and the text of the
-- failure gives a reason
reason_of : {S : Type 0} (remaining : S → Option (List ℕ)) (failures : S → ℕ) (input input' : S) (Opens : Text → Option S → Type 0) (words : List Text)
    (untouched failed : Type 0) (failure : Failure) → IsFailure remaining failures input input' Opens words untouched failed failure
    → (failed × (failure_text failure ≡ fault_line Write)) ⊎ (untouched × IsReason remaining failures input input' Opens words (failure_text failure))
reason_of remaining failures input input' Opens words untouched failed (Usage text) h = inr (h.0, inl h.1)
reason_of remaining failures input input' Opens words untouched failed Open h = inr (h.0, inr (inl (h.1, refl)))
reason_of remaining failures input input' Opens words untouched failed (Run Read) h = inr (h.0, inr (inr (inl (h.1, refl))))
reason_of remaining failures input input' Opens words untouched failed (Run Write) h = inl (h, refl)
reason_of remaining failures input input' Opens words untouched failed (Run NoMemory) h = inr (h, inr (inr (inr (inr refl))))
reason_of remaining failures input input' Opens words untouched failed (Run TooLong) h = inr (h.0, inr (inr (inr (inl (h.1, refl)))))

-- what becomes of the sink if there is no answer
pub kept_or_begun : {S : Type 0} (remaining : S → Option (List ℕ)) (failures : S → ℕ) (input input' : S) (Opens : Text → Option S → Type 0) (words : List Text)
    (untouched failed begun : Type 0) (failure : Failure)
    → IsFailure remaining failures input input' Opens words untouched (failed × begun) failure → untouched ⊎ begun
kept_or_begun remaining failures input input' Opens words untouched failed begun failure h =
    elim (reason_of remaining failures input input' Opens words untouched (failed × begun) failure h) [
      | inl (write, told) ↦ inr write.1
      | inr (kept, told) ↦ inl kept
    ]

-- a text that is sent is taken, or sending it failed
sent_in_part : {E : Type 0} (r : Result (Unit {0}) E) (old new : Option (List ℕ)) (text : List ℕ) (heard unheard : Type 0) → OnOk r heard →
    OnOk r (Appends old new text)
    → OnErr r unheard → OnErr r (TakesBeginning old new text) → (heard × Appends old new text) ⊎ (unheard × TakesBeginning old new text)
sent_in_part (Ok done) old new text heard unheard done' all failed part = inl (done', all)
sent_in_part (Err fault) old new text heard unheard done all failed part = inr (failed, part)

-- what is told of a failure
pub told_of : {S E : Type 0} (remaining : S → Option (List ℕ)) (failures : S → ℕ) (input input' : S) (Opens : Text → Option S → Type 0) (words : List Text)
    (untouched failed begun heard unheard : Type 0) (failure : Failure) (r : Result (Unit {0}) E) (old new : Option (List ℕ)) (text : List ℕ)
    → IsFailure remaining failures input input' Opens words untouched (failed × begun) failure → text ≡ failure_text failure → OnOk r heard
    → OnOk r (Appends old new text)
    → OnErr r unheard → OnErr r (TakesBeginning old new text)
    → Tells (IsReason remaining failures input input' Opens words) untouched failed heard unheard old new
told_of remaining failures input input' Opens words untouched failed begun heard unheard failure r old new text h is done all missed part = record {
  text = text;
  reason = elim (reason_of remaining failures input input' Opens words untouched (failed × begun) failure h) [
    | inl (write, told) ↦ inl (write.0, is ∙ told)
    | inr (kept, told) ↦ inr (kept, subst (IsReason remaining failures input input' Opens words) (sym is) told)
  ];
  taken = sent_in_part r old new text heard unheard done all missed part;
}
