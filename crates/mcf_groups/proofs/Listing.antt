-- Lists that grow by one piece at a time.
use Rattle.std.proofs.Common.{◌≡◌, ℕ, zero, suc, ◌+◌, ◌-◌, ◌<◌, Bool, true, false, List, [], ◌∷◌, ◌++◌, length, drop, refl, sym, ap, ◌∙◌, arith, append_assoc}
use Rattle.std.specs.List.{flat_map, range_with_len}
use Rattle.std.proofs.lemmas.List.{append-nil}
use Rattle.std.proofs.lemmas.List.Concat.{flat_map-append}
use Rattle.mcf_roster.specs.declared.pairs.Pair.{Pair}
use Rattle.mcf_groups.specs.Counts.{chosen_at, chosen_pairs}

range_more : (a n j : ℕ) → a + n ≡ j → range_with_len a (n + 1) ≡ range_with_len a n ++ j ∷ []
range_more a zero j e = let same : a ≡ j = omega (arith, e) in ap (λ (x : ℕ). x ∷ []) same
range_more a (suc n) j e =
    let long : suc n + 1 ≡ suc (n + 1) = omega arith in
    ap (range_with_len a) long ∙ ap (λ (xs : List ℕ). a ∷ xs) (range_more (a + 1) n j (omega (arith, e)))

-- the pieces of one number more
pub pieces_more : {A : Type 0} (f : ℕ → List A) (a n j : ℕ) → a + n ≡ j
    → flat_map f (range_with_len a (n + 1)) ≡ flat_map f (range_with_len a n) ++ f j
pieces_more {A} f a n j e =
    ap (flat_map f) (range_more a n j e) ∙ flat_map-append f (range_with_len a n) (j ∷ [])
    ∙ ap (λ (ys : List A). flat_map f (range_with_len a n) ++ ys) (append-nil (f j))

-- one more piece of a list that is made of pieces
pub pushed : {A : Type 0} (f : ℕ → List A) (a n j : ℕ) (start before after : List A) → a + n ≡ j
    → before ≡ start ++ flat_map f (range_with_len a n) → after ≡ before ++ f j → after ≡ start ++ flat_map f (range_with_len a (n + 1))
pushed {A} f a n j start before after e is last =
    last ∙ ap (λ (ys : List A). ys ++ f j) is ∙ append_assoc start (flat_map f (range_with_len a n)) (f j)
    ∙ ap (λ (ys : List A). start ++ ys) (sym (pieces_more f a n j e))

-- a range is its first number and the rest
pub range_peel : (a n i : ℕ) → i < n → range_with_len a (n - i) ≡ a ∷ range_with_len (a + 1) (n - (i + 1))
range_peel a n i inside =
    let long : n - i ≡ suc (n - (i + 1)) = omega (arith, inside) in
    ap (range_with_len a) long

-- the pairs that are chosen from a place on: the one there, if it is chosen, and those after it
none_chosen : (ps : List Pair) → chosen_pairs ps [] ≡ []
none_chosen [] = refl
none_chosen (p ∷ ps) = refl

peel : (ps : List Pair) (cs : List Bool) (i : ℕ) → i < length ps
    → chosen_pairs (drop i ps) (drop i cs) ≡ chosen_at ps cs i ++ chosen_pairs (drop (suc i) ps) (drop (suc i) cs)
peel [] cs i inside = absurd (omega (arith, inside))
peel (p ∷ ps) [] zero inside = sym (none_chosen ps)
peel (p ∷ ps) (true ∷ cs) zero inside = refl
peel (p ∷ ps) (false ∷ cs) zero inside = refl
peel (p ∷ ps) [] (suc i) inside = none_chosen (drop i ps) ∙ sym (none_chosen (drop (suc i) ps))
peel (p ∷ ps) (c ∷ cs) (suc i) inside = peel ps cs i (omega (arith, inside))

pub chosen_next : (ps : List Pair) (cs : List Bool) (i : ℕ) (before after : List Pair) → i < length ps
    → before ++ chosen_pairs (drop i ps) (drop i cs) ≡ chosen_pairs ps cs → after ≡ before ++ chosen_at ps cs i
    → after ++ chosen_pairs (drop (i + 1) ps) (drop (i + 1) cs) ≡ chosen_pairs ps cs
chosen_next ps cs i before after inside is put =
    let next : i + 1 ≡ suc i = omega arith in
    ap (λ (k : ℕ). after ++ chosen_pairs (drop k ps) (drop k cs)) next
    ∙ ap (λ (xs : List Pair). xs ++ chosen_pairs (drop (suc i) ps) (drop (suc i) cs)) put
    ∙ append_assoc before (chosen_at ps cs i) (chosen_pairs (drop (suc i) ps) (drop (suc i) cs))
    ∙ ap (λ (xs : List Pair). before ++ xs) (sym (peel ps cs i inside)) ∙ is
