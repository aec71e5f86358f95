-- What a run from a source to a sink does.
-- Source: own
use Rattle.std.specs.Prelude.{◌≡◌, ◌++◌, ◌<◌, ◌≤◌, ℕ, List, length, Option, Result, IfSome, codes}
use Rattle.std.specs.Io.KnownBytes.{Appends}
use Rattle.mcf_flows.specs.Codes.{Fault}
use Rattle.mcf_flows.specs.Limits.{limits}
use Rattle.mcf_flows.specs.Network.{Network}
use Rattle.mcf_instance.specs.Reading.{reading}
use Rattle.mcf_text.specs.Feed.{byte_limit}
use Rattle.mcf_choice.specs.declared.choice.Choice.{Choice}
use Rattle.mcf_solver.specs.declared.kind.Kind.{Kind}
use Rattle.mcf_solver.specs.declared.fault.RunFault.{RunFault}
use Rattle.mcf_solver.specs.declared.fault.RunFault.TheVariants.{Read, Write, NoMemory, TooLong}
use Rattle.mcf_solver.specs.Answering.{IsAnswerTo}

-- the most bytes that are taken from a source
abbrev pub text_limit : ℕ
text_limit = byte_limit

-- what the source gave stands for this: an instance, or the first fault; a source that names no
-- bytes gave some
pub record ReadsGiven (given : Option (List ℕ)) (outcome : Result Network Fault) : Type 0 where
  pub input : List ℕ
  pub is_given : IfSome given (λ bytes. bytes ≡ input)
  pub is_read : outcome ≡ reading limits input

-- the sink took the text of an answer to what the source gave; a source that names no bytes gave
-- some
pub record SendsAnswer (choice : Choice) (given : Option (List ℕ)) (kind : Kind) (old new : Option (List ℕ)) : Type 0 where
  pub input : List ℕ
  pub text : List ℕ
  pub is_given : IfSome given (λ bytes. bytes ≡ input)
  pub answer : IsAnswerTo choice input kind text
  pub taken : Appends old new text

-- a beginning of the text was taken, perhaps all of it
pub record TakesBeginning (old new : Option (List ℕ)) (text : List ℕ) : Type 0 where
  pub part : List ℕ
  pub rest : List ℕ
  pub whole : text ≡ part ++ rest
  pub taken : Appends old new part

-- the sink took a beginning of the text of an answer to what the source gave
pub record SendsBeginning (choice : Choice) (given : Option (List ℕ)) (old new : Option (List ℕ)) : Type 0 where
  pub input : List ℕ
  pub kind : Kind
  pub text : List ℕ
  pub is_given : IfSome given (λ bytes. bytes ≡ input)
  pub answer : IsAnswerTo choice input kind text
  pub taken : TakesBeginning old new text

-- more bytes than are taken from a source, where it names its bytes
abbrev pub IsTooLong : Option (List ℕ) → Type 0
IsTooLong given = IfSome given (λ bytes. text_limit < length bytes)

-- no more bytes than are taken from a source, where it names its bytes
abbrev pub IsTakenWhole : Option (List ℕ) → Type 0
IsTakenWhole given = IfSome given (λ bytes. length bytes ≤ text_limit)

-- what a fault says
abbrev pub fault_text : RunFault → List ℕ
fault_text Read = codes "mcf: read failed"
fault_text Write = codes "mcf: write failed"
fault_text NoMemory = codes "mcf: out of memory"
fault_text TooLong = codes "mcf: input too long"
