-- Rows of answers, one part after the other.
use Rattle.std.proofs.Common.{◌≡◌, ℕ, List, [], ◌++◌, ap, sym, ◌∙◌, append_assoc, append-nil, OnOk, Result, Ok, Err}
use Rattle.mcf_answer_rows.proofs.RowTexts.{two_put}
use Rattle.mcf_answer_rows.specs.Lines.{rows_text}

-- rows, more rows, and then more
pub sets_put : {E : Type 0} (r : Result (Unit {0}) E) (old one two all : List ℕ) (a b c : List (List (List ℕ))) → one ≡ old ++ rows_text a
    → two ≡ one ++ rows_text b → OnOk r (all ≡ two ++ rows_text c) → OnOk r (all ≡ old ++ rows_text (a ++ (b ++ c)))
sets_put r old one two all a b c first second third =
    let both : OnOk r (all ≡ one ++ rows_text (b ++ c)) = two_put r one two all b c second third in
    two_put r old one all a (b ++ c) first both

-- a line, and then another
pub pair_put : {E : Type 0} (r : Result (Unit {0}) E) (old one all a b : List ℕ) → one ≡ old ++ a → OnOk r (all ≡ one ++ b)
    → OnOk r (all ≡ old ++ (a ++ (b ++ [])))
pair_put (Err fault) old one all a b first second = tt
pair_put (Ok done) old one all a b first second =
    second ∙ ap (λ (xs : List ℕ). xs ++ b) first ∙ append_assoc old a b ∙ ap (λ (xs : List ℕ). old ++ (a ++ xs)) (sym (append-nil b))

-- two lines, and then more
pub lines_put : {E : Type 0} (r : Result (Unit {0}) E) (old one two all a b c : List ℕ) → one ≡ old ++ a → two ≡ one ++ b → OnOk r (all ≡ two ++ c)
    → OnOk r (all ≡ old ++ (a ++ (b ++ c)))
lines_put (Err fault) old one two all a b c first second third = tt
lines_put (Ok done) old one two all a b c first second third =
    third ∙ ap (λ (xs : List ℕ). xs ++ c) (second ∙ ap (λ (xs : List ℕ). xs ++ b) first)
    ∙ append_assoc (old ++ a) b c ∙ append_assoc old a (b ++ c)
