-- What is told of the first ones.
use Rattle.std.proofs.Common.{◌≡◌, ◌≢◌, ℕ, zero, suc, ◌+◌, ◌<◌, List, [], ◌∷◌, ◌++◌, length, get_or, refl, sym, ◌∙◌, subst, arith, Option, None, inl, inr}
use Rattle.std.specs.Prelude.{◌⊎◌}
use Rattle.std.proofs.lemmas.Bool.{cases_eq}
use Rattle.std.proofs.lemmas.List.{length-append}

module _ {X : Type 0} (Tells : ℕ → Option X → Type 0) where
  -- what is told of the first ones, of which each has a number, from 1
  pub record AreFirst (count : ℕ) (ranges : List (Option X)) : Type 0 where
    pub long : length ranges ≡ count
    pub each : (place : ℕ) → place < count → Tells (suc place) (get_or ranges place None)

  pub none_told : AreFirst 0 []
  none_told = record { long = refl; each = λ place h. absurd (omega (arith, h)) }

  last_of : (xs : List (Option X)) (x : Option X) (i : ℕ) → length xs ≡ i → get_or (xs ++ x ∷ []) i None ≡ x
  last_of [] x zero e = refl
  last_of [] x (suc i) e = absurd (omega (arith, e))
  last_of (y ∷ xs) x zero e = absurd (omega (arith, e))
  last_of (y ∷ xs) x (suc i) e = last_of xs x i (omega arith)

  before_last : (xs : List (Option X)) (x : Option X) (i : ℕ) → i < length xs → get_or (xs ++ x ∷ []) i None ≡ get_or xs i None
  before_last [] x i h = absurd (omega arith)
  before_last (y ∷ xs) x zero h = refl
  before_last (y ∷ xs) x (suc i) h = before_last xs x i (omega arith)

  pub one_told : (count : ℕ) (ranges after : List (Option X)) (told : Option X) → AreFirst count ranges → after ≡ ranges ++ told ∷ []
      → Tells (count + 1) told → AreFirst (count + 1) after
  one_told count ranges after told first e is =
      let long = first.long in
      subst (AreFirst (count + 1)) (sym e) (record {
        long = omega (arith, length-append ranges (told ∷ []), long);
        each = λ place h. go place h (cases_eq place count);
      })
    where
      go : (place : ℕ) → place < count + 1 → (place ≡ count) ⊎ (place ≢ count) → Tells (suc place) (get_or (ranges ++ told ∷ []) place None)
      go place h (inr other) =
          let l : place < count = omega (arith, h, other) in
          subst (Tells (suc place)) (sym (before_last ranges told place (omega (arith, l, first.long)))) (first.each place l)
      go place h (inl e) =
          let row : suc place ≡ count + 1 = omega (arith, e) in
          subst (λ r. Tells r (get_or (ranges ++ told ∷ []) place None)) (sym row)
          (subst (Tells (count + 1)) (sym (last_of ranges told place (first.long ∙ sym e))) is)
