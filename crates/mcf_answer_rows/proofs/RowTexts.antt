-- The text of rows is that of their table.
use Rattle.std.proofs.Common.{◌≡◌, ℕ, List, [], ◌∷◌, ◌++◌, refl, sym, ap, ◌∙◌, append_assoc, append-nil, OnOk, Result, Ok, Err, map, suc, ◌+◌, ◌-◌, ◌<◌, arith}
use Rattle.std.specs.List.{flat_map, range_with_len}
use Rattle.mcf_table.specs.Written.{row_text, table_text}
use Rattle.mcf_answer_rows.specs.Lines.{comma, row_line, rows_text}

pub rows_are_table : (rows : List (List (List ℕ))) → rows_text rows ≡ table_text comma rows
unfolding row_line
rows_are_table [] = refl
rows_are_table (row ∷ rows) =
    append_assoc (row_text comma row) (10 ∷ []) (rows_text rows) ∙ ap (λ (xs : List ℕ). row_text comma row ++ 10 ∷ xs) (rows_are_table rows)

-- the text of rows that come after others
pub rows_text_append : (rows others : List (List (List ℕ))) → rows_text (rows ++ others) ≡ rows_text rows ++ rows_text others
rows_text_append [] others = refl
rows_text_append (row ∷ rows) others =
    ap (λ (xs : List ℕ). row_line row ++ xs) (rows_text_append rows others) ∙ sym (append_assoc (row_line row) (rows_text rows) (rows_text others))

-- three texts, one after the other
pub three_put : {E : Type 0} (r : Result (Unit {0}) E) (old one two all a b c : List ℕ) → one ≡ old ++ a → two ≡ one ++ b → OnOk r (all ≡ two ++ c)
    → OnOk r (all ≡ old ++ (a ++ (b ++ (c ++ []))))
three_put (Err fault) old one two all a b c first second third = tt
three_put (Ok done) old one two all a b c first second third =
    third ∙ ap (λ (xs : List ℕ). xs ++ c) (second ∙ ap (λ (xs : List ℕ). xs ++ b) first)
    ∙ append_assoc (old ++ a) b c ∙ append_assoc old a (b ++ c)
    ∙ ap (λ (xs : List ℕ). old ++ (a ++ (b ++ xs))) (sym (append-nil c))

-- the numbers from one on begin with it
range_split : (place end : ℕ) → place < end → range_with_len place (end - place) ≡ place ∷ range_with_len (place + 1) (end - (place + 1))
range_split place end small =
    let one : end - place ≡ suc (end - (place + 1)) = omega (arith, small) in
    rw one refl

-- the row of a number is put, and then come those of the next ones
pub rows_step : (row : ℕ → List (List ℕ)) (old new whole : List ℕ) (place end : ℕ) → place < end
    → old ++ rows_text (map row (range_with_len place (end - place))) ≡ whole → new ≡ old ++ row_line (row place)
    → new ++ rows_text (map row (range_with_len (place + 1) (end - (place + 1)))) ≡ whole
rows_step row old new whole place end small before put =
    let rest = map row (range_with_len (place + 1) (end - (place + 1))) in
    ap (λ (xs : List ℕ). xs ++ rows_text rest) put ∙ append_assoc old (row_line (row place)) (rows_text rest)
    ∙ ap (λ (xs : List ℕ). old ++ rows_text (map row xs)) (sym (range_split place end small)) ∙ before

-- the same for the rows of a number
pub sets_step : (rows : ℕ → List (List (List ℕ))) (old new whole : List ℕ) (place end : ℕ) → place < end
    → old ++ rows_text (flat_map rows (range_with_len place (end - place))) ≡ whole → new ≡ old ++ rows_text (rows place)
    → new ++ rows_text (flat_map rows (range_with_len (place + 1) (end - (place + 1)))) ≡ whole
sets_step rows old new whole place end small before put =
    let rest = flat_map rows (range_with_len (place + 1) (end - (place + 1))) in
    ap (λ (xs : List ℕ). xs ++ rows_text rest) put ∙ append_assoc old (rows_text (rows place)) (rows_text rest)
    ∙ ap (λ (xs : List ℕ). old ++ xs) (sym (rows_text_append (rows place) rest))
    ∙ ap (λ (xs : List ℕ). old ++ rows_text (flat_map rows xs)) (sym (range_split place end small)) ∙ before

-- rows, and further rows
pub two_put : {E : Type 0} (r : Result (Unit {0}) E) (old one all : List ℕ) (a b : List (List (List ℕ))) → one ≡ old ++ rows_text a
    → OnOk r (all ≡ one ++ rows_text b) → OnOk r (all ≡ old ++ rows_text (a ++ b))
two_put (Err fault) old one all a b first second = tt
two_put (Ok done) old one all a b first second =
    second ∙ ap (λ (xs : List ℕ). xs ++ rows_text b) first ∙ append_assoc old (rows_text a) (rows_text b)
    ∙ ap (λ (xs : List ℕ). old ++ xs) (sym (rows_text_append a b))

-- rows, further rows, and more
pub parts_put : {E : Type 0} (r : Result (Unit {0}) E) (old one two all : List ℕ) (a b c d : List (List (List ℕ))) → one ≡ old ++ rows_text a
    → two ≡ one ++ (rows_text b ++ rows_text c) → OnOk r (all ≡ two ++ rows_text d) → OnOk r (all ≡ old ++ rows_text (a ++ (b ++ (c ++ d))))
parts_put (Err fault) old one two all a b c d first second third = tt
parts_put (Ok done) old one two all a b c d first second third =
    let bc = rows_text b ++ rows_text c in
    third ∙ ap (λ (xs : List ℕ). xs ++ rows_text d) (second ∙ ap (λ (xs : List ℕ). xs ++ bc) first)
    ∙ append_assoc (old ++ rows_text a) bc (rows_text d) ∙ append_assoc old (rows_text a) (bc ++ rows_text d)
    ∙ ap (λ (xs : List ℕ). old ++ (rows_text a ++ xs)) (append_assoc (rows_text b) (rows_text c) (rows_text d))
    ∙ ap (λ (xs : List ℕ). old ++ (rows_text a ++ (rows_text b ++ xs))) (sym (rows_text_append c d))
    ∙ ap (λ (xs : List ℕ). old ++ (rows_text a ++ xs)) (sym (rows_text_append b (c ++ d)))
    ∙ ap (λ (xs : List ℕ). old ++ xs) (sym (rows_text_append a (b ++ (c ++ d))))

-- a row, and then further rows
pub headed_put : {E : Type 0} (r : Result (Unit {0}) E) (old one all : List ℕ) (row : List (List ℕ)) (rows : List (List (List ℕ)))
    → one ≡ old ++ row_line row → OnOk r (all ≡ one ++ rows_text rows) → OnOk r (all ≡ old ++ rows_text (row ∷ rows))
headed_put (Err fault) old one all row rows first second = tt
headed_put (Ok done) old one all row rows first second =
    second ∙ ap (λ (xs : List ℕ). xs ++ rows_text rows) first ∙ append_assoc old (row_line row) (rows_text rows)
