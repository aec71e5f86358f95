-- The text of lists of rows, one after the other.
use Rattle.std.proofs.Common.{◌≡◌, ℕ, List, ◌++◌, ◌∙◌, ap, append_assoc, OnOk, Result, Ok, Err}
use Rattle.mcf_answer_rows.proofs.RowTexts.{two_put}
use Rattle.mcf_answer_rows.specs.Lines.{rows_text}

-- rows, further rows, and more
pub three_lists : {E : Type 0} (r : Result (Unit {0}) E) (old one two all : List ℕ) (a b c : List (List (List ℕ))) → one ≡ old ++ rows_text a
    → two ≡ one ++ rows_text b → OnOk r (all ≡ two ++ rows_text c) → OnOk r (all ≡ old ++ rows_text (a ++ (b ++ c)))
three_lists r old one two all a b c first second third = two_put r old one all a (b ++ c) first (two_put r one two all b c second third)

-- the text of rows after two others
pub headed : {E : Type 0} (r : Result (Unit {0}) E) (old one all a b : List ℕ) (c : List (List (List ℕ))) → one ≡ old ++ (a ++ b)
    → OnOk r (all ≡ one ++ rows_text c) → OnOk r (all ≡ old ++ (a ++ (b ++ rows_text c)))
headed (Err fault) old one all a b c first second = tt
headed (Ok done) old one all a b c first second =
    second ∙ ap (λ (xs : List ℕ). xs ++ rows_text c) first ∙ append_assoc old (a ++ b) (rows_text c)
    ∙ ap (λ (xs : List ℕ). old ++ xs) (append_assoc a b (rows_text c))
