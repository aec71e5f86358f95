-- What a call for a text hands out.
-- Source: own
use Rattle.std.specs.Prelude.{◌≡◌, ◌≤◌, ◌<◌, ◌⊎◌, ◌↔◌, ℕ, List, length, take, drop, Option, None, IfSome}
use Rattle.mcf_solver.specs.Answering.{IsAnswerTo}
use Rattle.mcf_c.specs.declared.statuses.TheConstants.{BLOCKED, BUFFER_TOO_SMALL, FLOW, INVALID_CHOICE, INVALID_INPUT, NO_MEMORY}
use Rattle.mcf_choice.specs.declared.choice.Choice.{Choice}
use Rattle.mcf_solver.specs.declared.kind.Kind.{Kind}
use Rattle.mcf_solver.specs.declared.kind.Kind.TheVariants.{Flow, Blocked, Refused}

-- the status of an answer of a kind
abbrev pub kind_status : Kind → ℕ
kind_status Flow = FLOW
kind_status Blocked = BLOCKED
kind_status Refused = INVALID_INPUT

-- a text of this status is an answer
pub record HandsText (choice : Choice) (input : List ℕ) (status : ℕ) (text : List ℕ) : Type 0 where
  pub kind : Kind
  pub is_status : status ≡ kind_status kind
  pub answer : IsAnswerTo choice input kind text

-- the room begins with a text of this status and length, and is as it was after it
pub record HandsInto (IsText : ℕ → List ℕ → Type 0) (status : ℕ) (old new : List ℕ) (used : ℕ) : Type 0 where
  pub fits : used ≤ length new
  pub handed : IsText status (take used new)
  pub rest : drop used new ≡ drop used old

-- a text of this length doesn't fit the room
pub record LacksRoomFor (IsText : ℕ → List ℕ → Type 0) (room : List ℕ) (used : ℕ) : Type 0 where
  pub status : ℕ
  pub text : List ℕ
  pub handed : IsText status text
  pub is_length : used ≡ length text
  pub short : length room < used

-- what a call for a text answers, by what its numbers ask, if they have a meaning: such a text with
-- its status, or no text
pub record AnswersInto {Asked : Type 0} (asked : Option Asked) (IsText : Asked → ℕ → List ℕ → Type 0) (status : ℕ) (room room' : List ℕ) (used' : ℕ) : Type 0 where
  pub statuses : status ≤ INVALID_CHOICE
  pub answer : status ≤ INVALID_INPUT → IfSome asked (λ a. HandsInto (IsText a) status room room' used')
  pub short : status ≡ BUFFER_TOO_SMALL → IfSome asked (λ a. LacksRoomFor (IsText a) room used')
  pub choice : (status ≡ INVALID_CHOICE) ↔ (asked ≡ None)
  pub untouched : NO_MEMORY ≤ status → room' ≡ room
  pub unused : (status ≡ NO_MEMORY) ⊎ (status ≡ INVALID_CHOICE) → used' ≡ 0
