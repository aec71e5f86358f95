-- Why a run of the command gives no answer, and what is then told.
use Rattle.std.specs.Prelude.{◌≡◌, ◌≢◌, ◌⊎◌, ℕ, List, Option}
use Rattle.std.specs.Io.KnownBytes.{Appends}
use Rattle.std.specs.String.{string_bytes}
use Rattle.clap.specs.Words.{Text}
use Rattle.clap.specs.declared.error.kind.ErrorKind.{ErrorKind}
use Rattle.clap.specs.declared.error.kind.ErrorKind.TheVariants.{DisplayHelp, DisplayVersion, OutOfMemory}
use Rattle.mcf_solver.specs.Devices.{CountsOneFailure}
use Rattle.mcf_solver.specs.Running.{IsTooLong, TakesBeginning}
use Rattle.mcf_solver.specs.declared.fault.RunFault.TheVariants.{Read, Write, NoMemory, TooLong}
use Rattle.mcf_suite.specs.declared.serving.Failure.{Failure}
use Rattle.mcf_suite.specs.declared.serving.Failure.TheVariants.{Usage, Open, Run}
use Rattle.mcf_suite.specs.Serving.{AsksToSolve, FailsToGive, GivesTooMuch, HaveUsageFault, IsUnopened, fault_line, open_line, version_text}

-- the text that tells of a failure
abbrev pub failure_text : Failure → List ℕ
failure_text (Usage text) = string_bytes text
failure_text Open = open_line
failure_text (Run fault) = fault_line fault

-- what is so of a source before and after, and of the sink, where a run between them fails: the
-- sink is as it was, or writing on it failed
abbrev pub IsRunFailure : Option (List ℕ) → ℕ → ℕ → Type 0 → Type 0 → Failure → Type 0
IsRunFailure given before after untouched failed (Usage text) = ⊥
IsRunFailure given before after untouched failed Open = ⊥
IsRunFailure given before after untouched failed (Run Read) = untouched × CountsOneFailure before after
IsRunFailure given before after untouched failed (Run Write) = failed
IsRunFailure given before after untouched failed (Run NoMemory) = untouched
IsRunFailure given before after untouched failed (Run TooLong) = untouched × IsTooLong given

-- the same of the words and of the source of their file
abbrev pub IsFailure : {S : Type 0} → (S → Option (List ℕ)) → (S → ℕ) → S → S → (Text → Option S → Type 0) → List Text
    → Type 0 → Type 0 → Failure → Type 0
IsFailure remaining failures input input' Opens words untouched failed (Usage text) = untouched × HaveUsageFault words
IsFailure remaining failures input input' Opens words untouched failed Open =
    untouched × AsksToSolve words (λ a. IsUnopened Opens a.file)
IsFailure remaining failures input input' Opens words untouched failed (Run Read) =
    untouched × AsksToSolve words (λ a. FailsToGive failures input input' Opens a.file)
IsFailure remaining failures input input' Opens words untouched failed (Run Write) = failed
IsFailure remaining failures input input' Opens words untouched failed (Run NoMemory) = untouched
IsFailure remaining failures input input' Opens words untouched failed (Run TooLong) =
    untouched × AsksToSolve words (λ a. GivesTooMuch remaining input input' Opens a.file)

-- the sink took what is shown where the words ask for it, by the kind of their fault: some help, or
-- the version
abbrev pub IsShown : ErrorKind → Option (List ℕ) → Option (List ℕ) → Type 0
IsShown kind old new =
    ((kind ≡ DisplayHelp) × ((text : List ℕ) × Appends old new text)) ⊎ ((kind ≡ DisplayVersion) × Appends old new version_text)

-- it took a beginning of that
abbrev pub IsShownInPart : ErrorKind → Option (List ℕ) → Option (List ℕ) → Type 0
IsShownInPart kind old new =
    ((kind ≡ DisplayHelp) × ((text : List ℕ) × TakesBeginning old new text)) ⊎ ((kind ≡ DisplayVersion) × TakesBeginning old new version_text)

-- the same where the words aren't taken, by the kind of their fault
abbrev pub IsHelpFailure : ErrorKind → Type 0 → Type 0 → Failure → Type 0
IsHelpFailure kind untouched failed (Usage text) =
    untouched × ((kind ≢ OutOfMemory) × (kind ≢ DisplayHelp) × (kind ≢ DisplayVersion))
IsHelpFailure kind untouched failed Open = ⊥
IsHelpFailure kind untouched failed (Run Read) = ⊥
IsHelpFailure kind untouched failed (Run Write) = failed
IsHelpFailure kind untouched failed (Run NoMemory) = untouched
IsHelpFailure kind untouched failed (Run TooLong) = ⊥
