-- Lists that are made for one number after another.
use Rattle.std.proofs.Common.{◌≡◌, ◌-◌, ◌≤◌, Option, Some, None, ℕ, zero, suc, ◌+◌, ◌<◌, Bool, true, false, refl, length, List, [], ◌∷◌, ◌++◌, map, sym, ap, ◌∙◌, arith, append_assoc}
use Rattle.std.specs.Prelude.{find}
use Rattle.std.specs.List.{flat_map, list_all, range_with_len}
use Rattle.std.proofs.lemmas.List.{append-nil}
use Rattle.std.proofs.lemmas.List.Concat.{flat_map-append}
use Rattle.std.proofs.lemmas.List.Folds.{list_all-append, list_all_at}
use Rattle.std.proofs.lemmas.List.FromFn.{get_or-range_with_len, length-range_with_len, map-range_with_len_more}

pub range_more : (a n j : ℕ) → a + n ≡ j → range_with_len a (n + 1) ≡ range_with_len a n ++ j ∷ []
range_more a zero j e = let same : a ≡ j = omega (arith, e) in ap (λ (x : ℕ). x ∷ []) same
range_more a (suc n) j e =
    let long : suc n + 1 ≡ suc (n + 1) = omega arith in
    ap (range_with_len a) long ∙ ap (λ (xs : List ℕ). a ∷ xs) (range_more (a + 1) n j (omega (arith, e)))

pub pieces_more : {A : Type 0} (f : ℕ → List A) (a n j : ℕ) → a + n ≡ j
    → flat_map f (range_with_len a (n + 1)) ≡ flat_map f (range_with_len a n) ++ f j
pieces_more {A} f a n j e =
    ap (flat_map f) (range_more a n j e) ∙ flat_map-append f (range_with_len a n) (j ∷ [])
    ∙ ap (λ (ys : List A). flat_map f (range_with_len a n) ++ ys) (append-nil (f j))

-- one more piece of a list that is made of pieces
pub pushed : {A : Type 0} (f : ℕ → List A) (a n j : ℕ) (start before after : List A) → a + n ≡ j
    → before ≡ start ++ flat_map f (range_with_len a n) → after ≡ before ++ f j → after ≡ start ++ flat_map f (range_with_len a (n + 1))
pushed {A} f a n j start before after e is last =
    last ∙ ap (λ (ys : List A). ys ++ f j) is ∙ append_assoc start (flat_map f (range_with_len a n)) (f j)
    ∙ ap (λ (ys : List A). start ++ ys) (sym (pieces_more f a n j e))

-- one more entry of a list that is made entry by entry, after what was there before
pub listed : {A : Type 0} (f : ℕ → A) (a n j : ℕ) (start before after : List A) → a + n ≡ j
    → before ≡ start ++ map f (range_with_len a n) → after ≡ before ++ f j ∷ [] → after ≡ start ++ map f (range_with_len a (n + 1))
listed {A} f a n j start before after e is last =
    last ∙ ap (λ (ys : List A). ys ++ f j ∷ []) is ∙ append_assoc start (map f (range_with_len a n)) (f j ∷ [])
    ∙ ap (λ (ys : List A). start ++ ys) (sym (map-range_with_len_more f a n j e))

-- one more entry of a list that is made entry by entry
pub made : {A : Type 0} (f : ℕ → A) (a n j : ℕ) (before after : List A) → a + n ≡ j
    → before ≡ map f (range_with_len a n) → after ≡ before ++ f j ∷ [] → after ≡ map f (range_with_len a (n + 1))
made {A} f a n j before after e is last =
    last ∙ ap (λ (ys : List A). ys ++ f j ∷ []) is ∙ sym (map-range_with_len_more f a n j e)

-- one more number that passes
pub all_more : (p : ℕ → Bool) (a n j : ℕ) → a + n ≡ j → list_all p (range_with_len a n) ≡ true → p j ≡ true
    → list_all p (range_with_len a (n + 1)) ≡ true
all_more p a n j e before here =
    ap (list_all p) (range_more a n j e) ∙ list_all-append p (range_with_len a n) (j ∷ []) ∙ rw before (rw here refl)

-- a number that doesn't pass
pub not_all : (p : ℕ → Bool) (a n i j : ℕ) → i < n → a + i ≡ j → p j ≡ false → list_all p (range_with_len a n) ≡ false
not_all p a n i j below e here =
    let inside : i < length (range_with_len a n) = rw length-range_with_len below in
    list_all_at p (range_with_len a n) i 0 inside (ap p (get_or-range_with_len a n i 0 below ∙ e) ∙ here)

-- the numbers from this one on, below a number
abbrev from_on : ℕ → ℕ → List ℕ
from_on first count = range_with_len first (count - first)

from_next : (first count : ℕ) → first < count → from_on first count ≡ first ∷ from_on (first + 1) count
from_next first count below =
    let more : count - first ≡ suc (count - (first + 1)) = omega (arith, below) in
    ap (range_with_len first) more

-- the first number that passes is this one
pub found_here : (p : ℕ → Bool) (j n : ℕ) (want : Option ℕ) → j < n → p j ≡ true → find p (from_on j n) ≡ want → Some j ≡ want
found_here p j n want below here is = sym (ap (find p) (from_next j n below) ∙ rw here refl) ∙ is

-- this one doesn't pass, so it is a later one
pub found_later : (p : ℕ → Bool) (j n : ℕ) (want : Option ℕ) → j < n → p j ≡ false → find p (from_on j n) ≡ want
    → find p (from_on (j + 1) n) ≡ want
found_later p j n want below here is = sym (ap (find p) (from_next j n below) ∙ rw here refl) ∙ is

-- no number is left
pub none_after : (p : ℕ → Bool) (j n : ℕ) (want : Option ℕ) → n ≤ j → find p (from_on j n) ≡ want → None ≡ want
none_after p j n want past is = let none : n - j ≡ 0 = omega (arith, past) in sym (ap (λ k. find p (range_with_len j k)) none) ∙ is

-- all numbers from 0 on
pub all_numbers : (p : ℕ → Bool) (n : ℕ) → find p (from_on 0 n) ≡ find p (range_with_len 0 n)
all_numbers p n = let same : n - 0 ≡ n = omega arith in ap (λ k. find p (range_with_len 0 k)) same
