-- Laws of answers and their texts.
-- Source: own
use Rattle.std.specs.Prelude.{◌≡◌, ◌↔◌, ℕ, List, Ok}
use Rattle.mcf_answer.specs.Parsing.{parsing}
use Rattle.mcf_answer.specs.Spelling.{IsAnswer, Spells}
use Rattle.mcf_answer.specs.Written.{written}
use Rattle.mcf_answer.specs.declared.answers.Answer.{Answer}

-- no text spells two answers
abbrev pub SpellsOneAnswer : Type 0
SpellsOneAnswer = (text : List ℕ) (a b : Answer) → Spells text a → Spells text b → a ≡ b

-- a text stands for an answer exactly if it spells it
abbrev pub ParsesWhatIsSpelled : Type 0
ParsesWhatIsSpelled = (text : List ℕ) (a : Answer) → (parsing text ≡ Ok a) ↔ Spells text a

-- what is written of an answer spells it, and stands for it
abbrev pub ReadsBack : Type 0
ReadsBack = (a : Answer) → IsAnswer a → Spells (written a) a × (parsing (written a) ≡ Ok a)
