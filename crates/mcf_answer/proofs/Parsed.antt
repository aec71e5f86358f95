-- What a parsed text spells.
use Rattle.std.proofs.Common.{◌≡◌, ℕ, List, Some, None, Ok, Err, refl, sym, ap, ◌∙◌}
use Rattle.std.specs.Prelude.{◌↔◌, IfErr, Option, Result}
use Rattle.mcf_answer.specs.Fits.{misfit}
use Rattle.mcf_answer.specs.Parsing.{answer_of_lines, parsing, parsing_of}
use Rattle.mcf_answer.specs.Spelling.{IsAnswer, Spells}
use Rattle.mcf_answer.specs.Token.{token_lines}
use Rattle.mcf_answer.specs.Written.{written}
use Rattle.mcf_answer.specs.declared.answers.Answer.{Answer}
use Rattle.mcf_answer.specs.declared.shape.Shape.{Shape}
use Rattle.mcf_answer.proofs.Accepts.{spelled_parses}
use Rattle.mcf_answer.proofs.Spelled.{parsed_spells}
use Rattle.mcf_answer.proofs.WrittenLemmas.{written_spells}

-- a text stands for an answer exactly if it spells it
pub exact : (text : List ℕ) (r : Result Answer Shape) → r ≡ parsing text → (a : Answer) → (r ≡ Ok a) ↔ Spells text a
exact text r e a = (λ f. parsed_spells text a (sym e ∙ f), λ h. e ∙ spelled_parses text a h)

-- no text spells two answers
pub one_answer : (text : List ℕ) (a b : Answer) → Spells text a → Spells text b → a ≡ b
one_answer text a b h k = cc (sym (spelled_parses text a h) ∙ spelled_parses text b k)

-- a text that stands for no answer has a line that doesn't fit, or is incomplete
pub at_misfit : (text : List ℕ) (r : Result Answer Shape) → r ≡ parsing text → IfErr r (λ shape. misfit text ≡ Some shape.line)
unfolding parsing
at_misfit text r e = go (misfit text) r refl e
  where
    go : (o : Option ℕ) (s : Result Answer Shape) → misfit text ≡ o → s ≡ parsing_of (misfit text) (answer_of_lines (token_lines text))
        → IfErr s (λ shape. misfit text ≡ Some shape.line)
    go o (Ok a) f g = tt
    go None (Err shape) f g = cc (g ∙ ap (λ p. parsing_of p (answer_of_lines (token_lines text))) f)
    go (Some line) (Err shape) f g =
        let same : shape ≡ record { line = line } = cc (g ∙ ap (λ p. parsing_of p (answer_of_lines (token_lines text))) f) in
        f ∙ ap (λ s. Some s.line) (sym same)

-- what is written of an answer spells it, and stands for it
pub reads_back : (a : Answer) → IsAnswer a → Spells (written a) a × (parsing (written a) ≡ Ok a)
reads_back a h =
    let spells = written_spells a h in
    (spells, spelled_parses (written a) a spells)
