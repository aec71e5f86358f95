-- Lists of numbers in turn.
use Rattle.std.proofs.Common.{◌≡◌, ℕ, zero, suc, ◌+◌, Bool, List, [], ◌∷◌, ◌++◌, sym, ap, ◌∙◌, arith, append_assoc}
use Rattle.std.specs.Prelude.{filter}
use Rattle.std.specs.List.{flat_map, range_with_len}
use Rattle.std.proofs.lemmas.List.{append-nil}
use Rattle.std.proofs.lemmas.List.Concat.{flat_map-append}
use Rattle.std.proofs.lemmas.List.Elements.{filter-append}

pub range_more : (a n j : ℕ) → a + n ≡ j → range_with_len a (n + 1) ≡ range_with_len a n ++ j ∷ []
range_more a zero j e = let same : a ≡ j = omega (arith, e) in ap (λ (x : ℕ). x ∷ []) same
range_more a (suc n) j e =
    let long : suc n + 1 ≡ suc (n + 1) = omega arith in
    ap (range_with_len a) long ∙ ap (λ (xs : List ℕ). a ∷ xs) (range_more (a + 1) n j (omega (arith, e)))

-- those of one number more that pass a test
pub filtered_more : (p : ℕ → Bool) (a n j : ℕ) → a + n ≡ j
    → filter p (range_with_len a (n + 1)) ≡ filter p (range_with_len a n) ++ filter p (j ∷ [])
filtered_more p a n j e = ap (filter p) (range_more a n j e) ∙ filter-append p (range_with_len a n) (j ∷ [])

-- the pieces of one number more
pub pieces_more : {A : Type 0} (f : ℕ → List A) (a n j : ℕ) → a + n ≡ j
    → flat_map f (range_with_len a (n + 1)) ≡ flat_map f (range_with_len a n) ++ f j
pieces_more {A} f a n j e =
    ap (flat_map f) (range_more a n j e) ∙ flat_map-append f (range_with_len a n) (j ∷ [])
    ∙ ap (λ (ys : List A). flat_map f (range_with_len a n) ++ ys) (append-nil (f j))

-- one more piece of a list that is made of pieces
pub pushed : {A : Type 0} (f : ℕ → List A) (a n j : ℕ) (start before after : List A) → a + n ≡ j
    → before ≡ start ++ flat_map f (range_with_len a n) → after ≡ before ++ f j → after ≡ start ++ flat_map f (range_with_len a (n + 1))
pushed {A} f a n j start before after e is last =
    last ∙ ap (λ (ys : List A). ys ++ f j) is ∙ append_assoc start (flat_map f (range_with_len a n)) (f j)
    ∙ ap (λ (ys : List A). start ++ ys) (sym (pieces_more f a n j e))
