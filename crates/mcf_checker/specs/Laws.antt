-- A law of verdicts.
-- Source: own
use Rattle.std.specs.Prelude.{◌↔◌, ℕ, List}
use Rattle.std.specs.Bool.{IsTrue}
use Rattle.mcf_checker.specs.Correct.{IsCorrect}
use Rattle.mcf_checker.specs.Judging.{accepts, verdict}

-- the verdict accepts exactly if the answer text is correct for the instance text
abbrev pub CorrectAnswersAreAccepted : Type 0
CorrectAnswersAreAccepted = (input text : List ℕ) → IsTrue (accepts (verdict input text)) ↔ IsCorrect input text
