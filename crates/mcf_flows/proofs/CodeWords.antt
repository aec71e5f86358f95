-- The words of the codes differ.
use Rattle.std.proofs.Common.{◌≡◌, ℕ, Bool, true, false, cond, List, [], ◌∷◌, refl, sym, ◌∙◌, ap, Some}
use Rattle.std.specs.Prelude.{◌↔◌, find, bytes_eq}
use Rattle.std.proofs.lemmas.Slice.Eq.{bytes_eq-Decides}
use Rattle.mcf_flows.specs.declared.code.Code.{Code}
use Rattle.mcf_flows.specs.declared.code.Code.TheVariants.{Kind, Fields, Problem, Number, SecondP, BeforeP, Size, Node, LateN, Twice, Supply, Bound, Order}
use Rattle.mcf_flows.specs.declared.code.Code.TheVariants.{Cost, Extra, Side, Total, NoP, Missing}
use Rattle.mcf_flows.specs.Codes.{all_codes, code_of_word, code_word}

-- the code of its own word
pub code_of_word-code_word : (code : Code) → code_of_word (code_word code) ≡ Some code
code_of_word-code_word Kind = refl
code_of_word-code_word Fields = refl
code_of_word-code_word Problem = refl
code_of_word-code_word Number = refl
code_of_word-code_word SecondP = refl
code_of_word-code_word BeforeP = refl
code_of_word-code_word Size = refl
code_of_word-code_word Node = refl
code_of_word-code_word LateN = refl
code_of_word-code_word Twice = refl
code_of_word-code_word Supply = refl
code_of_word-code_word Bound = refl
code_of_word-code_word Order = refl
code_of_word-code_word Cost = refl
code_of_word-code_word Extra = refl
code_of_word-code_word Side = refl
code_of_word-code_word Total = refl
code_of_word-code_word NoP = refl
code_of_word-code_word Missing = refl

-- what is found passes the test
pub find_passes : {X : Type 0} (p : X → Bool) (xs : List X) (x : X) → find p xs ≡ Some x → p x ≡ true
find_passes p [] x e = cc
find_passes {X} p (y ∷ ys) x e = go (p y) refl (find_passes p ys x)
  where
    go : (b : Bool) → p y ≡ b → (find p ys ≡ Some x → p x ≡ true) → p x ≡ true
    go true f next = let first : Some y ≡ Some x = sym (ap (λ b. cond b (Some y) (find p ys)) f) ∙ e in let same : y ≡ x = cc in ap p (sym same) ∙ f
    go false f next = next (sym (ap (λ b. cond b (Some y) (find p ys)) f) ∙ e)

pub code_of_word-known : (word : List ℕ) (code : Code) → (code_of_word word ≡ Some code) ↔ (code_word code ≡ word)
code_of_word-known word code = (
  λ e. (bytes_eq-Decides (code_word code) word).0 (find_passes (λ c. bytes_eq (code_word c) word) all_codes code e),
  λ e. ap code_of_word (sym e) ∙ code_of_word-code_word code,
)
