-- What stands in a list, and its first elements.
use Rattle.std.proofs.Common.{◌≡◌, ℕ, zero, suc, ◌+◌, ◌<◌, List, [], ◌∷◌, ◌++◌, length, take, get_or, refl, sym, ap, ◌∙◌, arith, ◌⊎◌, inl, inr}
use Rattle.std.specs.List.{All, Contains}
use Rattle.std.proofs.lemmas.List.{take_more}
use Rattle.std.proofs.lemmas.List.Elements.{All-tail}

pub All-behind : {X : Type 0} (P : X → Type 0) (xs ys : List X) → All P (xs ++ ys) → All P ys
All-behind P [] ys h = h
All-behind P (x ∷ xs) ys h = All-behind P xs ys (All-tail P x (xs ++ ys) h)

pub Contains-first : {X : Type 0} (x : X) (xs : List X) → Contains (x ∷ xs) x
Contains-first x xs = (0, omega arith, refl)

pub Contains-later : {X : Type 0} (x y : X) (xs : List X) → Contains xs y → Contains (x ∷ xs) y
Contains-later x y xs (i, h, e) = (suc i, omega arith, e)

pub Contains-cons : {X : Type 0} (x : X) (xs : List X) (y : X) → Contains (x ∷ xs) y → (x ≡ y) ⊎ Contains xs y
Contains-cons x xs y (zero, l, e) = inl e
Contains-cons x xs y (suc k, l, e) = inr (k, omega arith, e)

-- one element more of a list that is copied
pub take_next : {X : Type 0} (xs : List X) (i : ℕ) (x d : X) (before after : List X) → before ≡ take i xs → i < length xs → get_or xs i d ≡ x
    → after ≡ before ++ x ∷ [] → after ≡ take (i + 1) xs
take_next xs i x d before after eb h ex e =
    e ∙ ap (λ ys. ys ++ x ∷ []) eb ∙ ap (λ z. take i xs ++ z ∷ []) (sym ex) ∙ sym (take_more xs i d h)
