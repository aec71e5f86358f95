-- What the command `mcf` does.
-- Source: own
use Rattle.std.specs.Prelude.{◌≡◌, ◌≢◌, ◌⊎◌, ◌++◌, ◌∷◌, [], ℕ, List, Option, Some, None, codes}
use Rattle.std.specs.Borrow.{Bor}
use Rattle.std.specs.Fn.{CalledAt, Mut}
use Rattle.std.specs.Io.KnownBytes.{Appends}
use Rattle.clap.specs.Words.{App, IsAmong, Text, fault_of}
use Rattle.clap.specs.declared.error.kind.ErrorKind.{ErrorKind}
use Rattle.clap.specs.declared.error.kind.ErrorKind.TheVariants.{DisplayHelp, DisplayVersion}
use Rattle.mcf_asking.specs.declared.asking.Asked.{Asked}
use Rattle.mcf_choice.specs.declared.choice.Choice.{Choice}
use Rattle.mcf_solver.specs.declared.kind.Kind.{Kind}
use Rattle.mcf_solver.specs.declared.kind.Kind.TheVariants.{Flow, Blocked, Refused}
use Rattle.mcf_solver.specs.declared.fault.RunFault.{RunFault}
use Rattle.mcf_solver.specs.declared.fault.RunFault.TheVariants.{Read, Write, NoMemory, TooLong}
use Rattle.mcf_asking.specs.Asking.{Asks, IsMcf}
use Rattle.mcf_solver.specs.Devices.{CountsOneFailure}
use Rattle.mcf_solver.specs.Running.{IsTakenWhole, IsTooLong, SendsAnswer, SendsBeginning, TakesBeginning, fault_text}

-- the status that tells of an answer
abbrev pub status_of : Kind → ℕ
status_of Flow = 0
status_of Blocked = 1
status_of Refused = 2

-- what a call of the opener gave for a name, where it left the opener so
abbrev pub OpensBy : {P S : Type 0} → Mut P (Bor Text × Unit {0}) (Option S) → P → P → Text → Option S → Type 0
OpensBy calls before after name given = CalledAt calls before name given after

-- the source before and after: what the opener gives for the name of a file, and the input if there
-- is no file
abbrev pub IsSource : {S : Type 0} → S → S → (Text → Option S → Type 0) → Option (Bor Text) → S → S → Type 0
IsSource input input' Opens None source after = (source ≡ input) × (after ≡ input')
IsSource input input' Opens (Some name) source after = Opens name.now (Some source)

-- the bytes of the source
abbrev pub GivesBytes : {S : Type 0} → (S → Option (List ℕ)) → S → S → (Text → Option S → Type 0)
    → Option (Bor Text) → Option (List ℕ) → Type 0
GivesBytes {S} remaining input input' Opens file given =
    (source after : S) × IsSource input input' Opens file source after × (given ≡ remaining source)

-- the source failed: the input counts one failure more as it is left; of a file's source, which
-- nobody has afterwards, some state does
abbrev pub FailsToGive : {S : Type 0} → (S → ℕ) → S → S → (Text → Option S → Type 0) → Option (Bor Text) → Type 0
FailsToGive {S} failures input input' Opens file =
    (source after : S) × IsSource input input' Opens file source after × CountsOneFailure (failures source) (failures after)

-- the source has more bytes than are taken from one
abbrev pub GivesTooMuch : {S : Type 0} → (S → Option (List ℕ)) → S → S → (Text → Option S → Type 0) → Option (Bor Text) → Type 0
GivesTooMuch {S} remaining input input' Opens file =
    (source after : S) × IsSource input input' Opens file source after × IsTooLong (remaining source)

-- a file is named, and the opener was asked for its name
abbrev pub IsAskedFor : {S : Type 0} → (Text → Option S → Type 0) → Option (Bor Text) → Type 0
IsAskedFor Opens None = ⊥
IsAskedFor {S} Opens (Some name) = (given : Option S) × Opens name.now given

-- the words have no fault and ask to solve, and this holds of the file that they name
pub record AsksToSolve (words : List Text) (of_asked : Asked → Type 0) : Type 0 where
  pub app : App
  pub is_mcf : IsMcf app
  pub faultless : fault_of app words ≡ []
  pub asked : Asked
  pub asks : Asks app words asked
  pub holds : of_asked asked

-- the words have a fault of this kind; to ask for help, or for the version, is one of the kinds
pub record HaveFault (words : List Text) (kind : ErrorKind) : Type 0 where
  pub app : App
  pub is_mcf : IsMcf app
  pub among : IsAmong kind (fault_of app words)

-- the sink took an answer to what a source gives, which isn't too long, and the status tells which
pub record Answers (choice : Choice) (given : Option (List ℕ)) (status : ℕ) (old new : Option (List ℕ)) : Type 0 where
  pub whole : IsTakenWhole given
  pub kind : Kind
  pub is_status : status ≡ status_of kind
  pub sent : SendsAnswer choice given kind old new

-- the sink took a beginning of an answer to what a source gives, which isn't too long
pub record AnswersInPart (choice : Choice) (given : Option (List ℕ)) (old new : Option (List ℕ)) : Type 0 where
  pub whole : IsTakenWhole given
  pub sent : SendsBeginning choice given old new

-- the words ask to solve, and the sink took an answer, by what they choose, to what the source of
-- their file gives
abbrev pub Solves : List Text → (Option (Bor Text) → Option (List ℕ) → Type 0) → ℕ → Option (List ℕ) → Option (List ℕ) → Type 0
Solves words Gives status old new =
    AsksToSolve words (λ a. (given : Option (List ℕ)) × Gives a.file given × Answers a.choice given status old new)

-- the words ask for help, and the sink took some text
pub record ShowsHelp (words : List Text) (status : ℕ) (old new : Option (List ℕ)) : Type 0 where
  pub asked : HaveFault words DisplayHelp
  pub is_status : status ≡ 0
  pub text : List ℕ
  pub taken : Appends old new text

-- the name and the version of the program, and the logic that it was proved with
abbrev pub version_text : List ℕ
version_text = codes "mcf 1.0.0\nproved with Rattle, logic dac8208d650f15bf\n"

-- the words ask for the version, and the sink took it
pub record ShowsVersion (words : List Text) (status : ℕ) (old new : Option (List ℕ)) : Type 0 where
  pub asked : HaveFault words DisplayVersion
  pub is_status : status ≡ 0
  pub taken : Appends old new version_text

-- the words ask to solve, and the sink took an answer; or they ask for help, and it took some text;
-- or for the version, and it took that
abbrev pub Serves : List Text → (Option (Bor Text) → Option (List ℕ) → Type 0) → ℕ → Option (List ℕ)
    → Option (List ℕ) → Type 0
Serves words Gives status old new = Solves words Gives status old new ⊎ (ShowsHelp words status old new ⊎ ShowsVersion words status old new)

-- the words ask to solve, and the sink took a beginning of an answer, by what they choose, to what
-- the source of their file gives
abbrev pub SolvesInPart : List Text → (Option (Bor Text) → Option (List ℕ) → Type 0) → Option (List ℕ) → Option (List ℕ) → Type 0
SolvesInPart words Gives old new =
    AsksToSolve words (λ a. (given : Option (List ℕ)) × Gives a.file given × AnswersInPart a.choice given old new)

-- the words ask for help, and the sink took a beginning of some text
pub record ShowsHelpInPart (words : List Text) (old new : Option (List ℕ)) : Type 0 where
  pub asked : HaveFault words DisplayHelp
  pub text : List ℕ
  pub taken : TakesBeginning old new text

-- the words ask for the version, and the sink took a beginning of it
pub record ShowsVersionInPart (words : List Text) (old new : Option (List ℕ)) : Type 0 where
  pub asked : HaveFault words DisplayVersion
  pub taken : TakesBeginning old new version_text

-- the words ask to solve, for help or for the version, and the sink took a beginning of what they
-- ask for
abbrev pub ServesInPart : List Text → (Option (Bor Text) → Option (List ℕ) → Type 0) → Option (List ℕ)
    → Option (List ℕ) → Type 0
ServesInPart words Gives old new = SolvesInPart words Gives old new ⊎ (ShowsHelpInPart words old new ⊎ ShowsVersionInPart words old new)

-- the line that a fault is told by
abbrev pub fault_line : RunFault → List ℕ
fault_line fault = fault_text fault ++ 10 ∷ []

-- the line that tells of a file that isn't opened
abbrev pub open_line : List ℕ
open_line = codes "mcf: cannot open the file\n"

-- the file is named, and the opener gives none for its name
abbrev pub IsUnopened : {S : Type 0} → (Text → Option S → Type 0) → Option (Bor Text) → Type 0
IsUnopened Opens None = ⊥
IsUnopened Opens (Some name) = Opens name.now None

-- the words have a fault, and ask neither for help nor for the version
pub record HaveUsageFault (words : List Text) : Type 0 where
  pub kind : ErrorKind
  pub no_help : kind ≢ DisplayHelp
  pub no_version : kind ≢ DisplayVersion
  pub fault : HaveFault words kind

-- why nothing is answered, though nothing was written: the words have a fault, of which the text
-- says something; or their file isn't opened, its source fails or has too many bytes, or memory
-- runs out, and the text is the line that tells of it
abbrev pub IsReason : {S : Type 0} → (S → Option (List ℕ)) → (S → ℕ) → S → S → (Text → Option S → Type 0) → List Text → List ℕ → Type 0
IsReason remaining failures input input' Opens words text =
    HaveUsageFault words
    ⊎ ((AsksToSolve words (λ a. IsUnopened Opens a.file) × (text ≡ open_line))
    ⊎ ((AsksToSolve words (λ a. FailsToGive failures input input' Opens a.file) × (text ≡ fault_line Read))
    ⊎ ((AsksToSolve words (λ a. GivesTooMuch remaining input input' Opens a.file) × (text ≡ fault_line TooLong))
    ⊎ (text ≡ fault_line NoMemory))))

-- the sink took the text that tells why nothing is answered, where the other sink is as it was;
-- where writing on the other failed, the line of that; and it finished, or failed, and then took a
-- beginning of the text
pub record Tells (IsReasonFor : List ℕ → Type 0) (untouched failed heard unheard : Type 0) (old new : Option (List ℕ)) : Type 0 where
  pub text : List ℕ
  pub reason : (failed × (text ≡ fault_line Write)) ⊎ (untouched × IsReasonFor text)
  pub taken : (heard × Appends old new text) ⊎ (unheard × TakesBeginning old new text)
