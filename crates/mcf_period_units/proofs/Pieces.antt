-- Lists that are made piece by piece, of one number after another.
use Rattle.std.proofs.Common.{◌≡◌, ◌∙◌, ℕ, zero, suc, ◌+◌, ◌*◌, ◌<◌, ◌≤◌, Bool, cond, List, [], ◌∷◌, ◌++◌, length, map, refl, ap, sym, arith, inl, inr, length-append}
use Rattle.std.specs.Prelude.{filter}
use Rattle.std.specs.List.{All, flat_map, range_with_len}
use Rattle.std.proofs.Math.Nat.{mul-suc, mul-zero}
use Rattle.std.proofs.lemmas.Bool.{cases_eq}
use Rattle.std.proofs.lemmas.List.Elements.{All-append, All-nil, filter-append}
use Rattle.mcf_reading.proofs.Ranges.{range_more}

pub all_pieces : {X : Type 0} (P : X → Type 0) (f : ℕ → List X) (a n : ℕ) → ((j : ℕ) → a ≤ j → j < a + n → All P (f j)) → All P (flat_map f (range_with_len a n))
all_pieces P f a zero h = All-nil P
all_pieces P f a (suc n) h =
    All-append P (f a) (flat_map f (range_with_len (a + 1) n)) (h a (omega arith) (omega arith))
    (all_pieces P f (a + 1) n (λ j low high. h j (omega (arith, low)) (omega (arith, high))))

pub same_pieces : {X : Type 0} (f g : ℕ → List X) (a n : ℕ) → ((j : ℕ) → a ≤ j → j < a + n → f j ≡ g j)
    → flat_map f (range_with_len a n) ≡ flat_map g (range_with_len a n)
same_pieces f g a zero h = refl
same_pieces {X} f g a (suc n) h =
    ap (λ (xs : List X). xs ++ flat_map f (range_with_len (a + 1) n)) (h a (omega arith) (omega arith))
    ∙ ap (λ (xs : List X). g a ++ xs) (same_pieces f g (a + 1) n (λ j low high. h j (omega (arith, low)) (omega (arith, high))))

map_append : {X Y : Type 0} (h : X → Y) (xs ys : List X) → map h (xs ++ ys) ≡ map h xs ++ map h ys
map_append h [] ys = refl
map_append h (x ∷ xs) ys = ap (λ zs. h x ∷ zs) (map_append h xs ys)

pub map_pieces : {X Y : Type 0} (h : X → Y) (f : ℕ → List X) (ks : List ℕ) → map h (flat_map f ks) ≡ flat_map (λ k. map h (f k)) ks
map_pieces h f [] = refl
map_pieces h f (k ∷ ks) = map_append h (f k) (flat_map f ks) ∙ ap (λ zs. map h (f k) ++ zs) (map_pieces h f ks)

pub filter_more : (p : ℕ → Bool) (n : ℕ)
    → filter p (range_with_len 1 (n + 1)) ≡ filter p (range_with_len 1 n) ++ cond (p (n + 1)) ((n + 1) ∷ []) []
filter_more p n =
    ap (filter p) (range_more 1 n (n + 1) (omega arith)) ∙ filter-append p (range_with_len 1 n) ((n + 1) ∷ [])

none_both : {X : Type 0} (xs ys : List X) → xs ++ ys ≡ [] → (xs ≡ []) × (ys ≡ [])
none_both [] ys e = (refl, e)
none_both (x ∷ xs) ys e = cc e

pub none_left : {X : Type 0} (xs ys : List X) → xs ++ ys ≡ [] → xs ≡ []
none_left xs ys e = (none_both xs ys e).0

pub none_right : {X : Type 0} (xs ys : List X) → xs ++ ys ≡ [] → ys ≡ []
none_right xs ys e = (none_both xs ys e).1

pub no_piece : {X : Type 0} (f : ℕ → List X) (a n j : ℕ) → flat_map f (range_with_len a n) ≡ [] → a ≤ j → j < a + n → f j ≡ []
no_piece f a zero j e low high = absurd (omega (arith, low, high))
no_piece f a (suc n) j e low high =
    elim (cases_eq a j) [
      | inl same ↦ ap f (sym same) ∙ none_left (f a) (flat_map f (range_with_len (a + 1) n)) e
      | inr other ↦
          no_piece f (a + 1) n j (none_right (f a) (flat_map f (range_with_len (a + 1) n)) e) (omega (arith, low, other)) (omega (arith, high))
    ]

pub length_pieces : {X : Type 0} (f : ℕ → List X) (c a n : ℕ) → ((j : ℕ) → length (f j) ≡ c) → length (flat_map f (range_with_len a n)) ≡ c * n
length_pieces f c a zero h = sym (mul-zero c)
length_pieces f c a (suc n) h =
    let rest = length_pieces f c (a + 1) n h in
    let here = h a in
    length-append (f a) (flat_map f (range_with_len (a + 1) n)) ∙ omega (arith, rest, here, mul-suc c n)
