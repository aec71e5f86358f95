-- Runs of the command: which files are read, and what is given and printed. `calls` says what a
-- call of the reader of files may give, and `words` are the texts of the words.
-- Source: own
use denote.Ref.{Bor}
use Rattle.std.specs.Fn.{CalledAt, Mut}
use Rattle.std.specs.Io.KnownBytes.{Appends}
use Rattle.std.specs.Prelude.{◌≡◌, ◌≢◌, ◌⊎◌, ◌++◌, ℕ, List, [], length, Option, Result, Ok, MatchResult, if◌then◌else◌, slice_index_or, ⊤}
use Rattle.mcf_checker.specs.declared.command.FileFault.{FileFault}
use Rattle.mcf_checker.specs.Judging.{accepts, verdict}
use Rattle.mcf_checker.specs.Lines.{answer_line, file_line, instance_line, memory_line, usage_line, write_line}
use Rattle.mcf_checker.specs.Printed.{printed_line}

-- what a run does that comes to a verdict: it reads the file of the second word and then that of
-- the third, appends the line of the verdict on their bytes to what a writer held, and its status
-- is 0 where the verdict accepts, otherwise 1
pub record JudgesAndPrints {F V E : Type 0} (calls : Mut F (Bor (List ℕ) × Unit {0}) (Result V E)) (bytes : V → List ℕ) (read : F) (words : List (List ℕ))
    (status : ℕ) (old new : Option (List ℕ)) : Type 0 where
  pub input : V
  pub text : V
  pub between : F
  pub last : F
  pub input_read : CalledAt calls read (slice_index_or words 1 []) (Ok input) between
  pub text_read : CalledAt calls between (slice_index_or words 2 []) (Ok text) last
  pub status_is : status ≡ (if accepts (verdict (bytes input) (bytes text)) then 0 else 1)
  pub printed_is : Appends old new (printed_line (verdict (bytes input) (bytes text)))

-- the file of the third word is asked for; where it can't be read, this holds of its fault, and
-- where it is read, this holds of it
pub record AsksForAnswer {F V E : Type 0} (calls : Mut F (Bor (List ℕ) × Unit {0}) (Result V E)) (read : F) (words : List (List ℕ)) (of_answer : E → Type 0)
    (of_read : V → Type 0) : Type 0 where
  pub given : Result V E
  pub last : F
  pub called : CalledAt calls read (slice_index_or words 2 []) given last
  pub outcome : MatchResult given of_read of_answer

-- the file of the second word is asked for, and then, if it can be read, that of the third; where
-- one of them can't be read, this holds of its fault, and where both are read, this holds of them
pub record AsksForFiles {F V E : Type 0} (calls : Mut F (Bor (List ℕ) × Unit {0}) (Result V E)) (read : F) (words : List (List ℕ))
    (of_input of_answer : E → Type 0) (of_both : V → V → Type 0) : Type 0 where
  pub given : Result V E
  pub between : F
  pub called : CalledAt calls read (slice_index_or words 1 []) given between
  pub outcome : MatchResult given (λ input. AsksForAnswer calls between words of_answer (of_both input)) of_input

-- the files are asked for in this order, and one fact holds where one of them can't be read
abbrev pub ReadsFiles : {F V E : Type 0} → Mut F (Bor (List ℕ) × Unit {0}) (Result V E) → F → List (List ℕ) → Type 0 → Type 0
ReadsFiles calls read words unread = AsksForFiles calls read words (λ _. unread) (λ _. unread) (λ _ _. ⊤)

-- the file of the second word is asked for and, where that is read, that of the third, and nothing
-- more: the reader is afterwards as the last call leaves it
pub record AsksOnce {F V E : Type 0} (calls : Mut F (Bor (List ℕ) × Unit {0}) (Result V E)) (read : F) (words : List (List ℕ)) (after : F) : Type 0 where
  pub given : Result V E
  pub between : F
  pub called : CalledAt calls read (slice_index_or words 1 []) given between
  pub outcome : MatchResult given (λ _. (answer : Result V E) × CalledAt calls between (slice_index_or words 2 []) answer after) (λ _. after ≡ between)

-- ---- no verdict

-- a beginning of the text was taken, perhaps all of it
pub record TakesBeginning (old new : Option (List ℕ)) (text : List ℕ) : Type 0 where
  pub part : List ℕ
  pub rest : List ℕ
  pub whole : text ≡ part ++ rest
  pub taken : Appends old new part

-- why there is no verdict though both files were read: memory runs out, and the writer is as it
-- was; or writing failed, and it took a beginning of the line of the verdict on their bytes
abbrev pub IsUnprinted : List ℕ → List ℕ → Type 0 → Option (List ℕ) → Option (List ℕ) → List ℕ → Type 0
IsUnprinted input text untouched old new line =
    (untouched × (line ≡ memory_line)) ⊎ (TakesBeginning old new (printed_line (verdict input text)) × (line ≡ write_line))

-- why there is no verdict, and the line that tells it: there are other words than three; a file
-- wasn't read; or the verdict wasn't printed
abbrev pub IsReason : {F V : Type 0} → Mut F (Bor (List ℕ) × Unit {0}) (Result V FileFault) → (V → List ℕ) → F → List (List ℕ) → Type 0 → Option (List ℕ)
    → Option (List ℕ) → List ℕ → Type 0
IsReason calls bytes read words untouched old new line =
    ((length words ≢ 3) × untouched × (line ≡ usage_line))
    ⊎ ((length words ≡ 3) × AsksForFiles calls read words (λ fault. untouched × (line ≡ file_line instance_line fault))
    (λ fault. untouched × (line ≡ file_line answer_line fault))
    (λ input text. IsUnprinted (bytes input) (bytes text) untouched old new line))

-- a writer took a beginning of the line that tells the reason; that it is the whole line, where
-- writing works, is tested alone
pub record Tells (IsReasonFor : List ℕ → Type 0) (old new : Option (List ℕ)) : Type 0 where
  pub line : List ℕ
  pub reason : IsReasonFor line
  pub taken : TakesBeginning old new line
