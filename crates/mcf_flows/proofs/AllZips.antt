-- A fact of two lists, place by place: as of the arcs and a flow.
use Rattle.std.proofs.Common.{◌≡◌, ℕ, zero, suc, ◌+◌, ◌<◌, List, [], ◌∷◌, length, take, set, get_or, sym, arith, add-one}
use Rattle.std.specs.List.{All, AllZip}
use Rattle.std.proofs.lemmas.List.Elements.{All-head, All-tail}
use Rattle.std.proofs.lemmas.Slice.Zip.{AllZip-long}

module _ {X Y : Type 0} (R : X → Y → Type 0) where
  pub length-AllZip : (xs : List X) (ys : List Y) → AllZip R xs ys → length xs ≡ length ys
  length-AllZip xs ys h = sym (AllZip-long R xs ys h)

  -- a fact of each element of the first list, and this fact, as one
  pub AllZip-with : (P : X → Type 0) (xs : List X) (ys : List Y) → All P xs → AllZip R xs ys → AllZip (λ x y. P x × R x y) xs ys
  AllZip-with P [] [] h k = k
  AllZip-with P [] (y ∷ ys) h k = k
  AllZip-with P (x ∷ xs) [] h k = k
  AllZip-with P (x ∷ xs) (y ∷ ys) h k =
      ((All-head P x xs h, k.0), AllZip-with P xs ys (All-tail P x xs h) k.1)

  -- the fact at one place
  pub AllZip-at : (xs : List X) (ys : List Y) (i : ℕ) (x : X) (y : Y) → AllZip R xs ys → i < length xs → R (get_or xs i x) (get_or ys i y)
  AllZip-at [] ys i x y h k = absurd (omega arith)
  AllZip-at (a ∷ xs) [] i x y h k = absurd h
  AllZip-at (a ∷ xs) (b ∷ ys) zero x y h k = h.0
  AllZip-at (a ∷ xs) (b ∷ ys) (suc i) x y h k = AllZip-at xs ys i x y h.1 (omega arith)

  -- the fact at every place
  pub AllZip_from : (xs : List X) (ys : List Y) → length xs ≡ length ys → ((i : ℕ) → i < length xs → (x : X) (y : Y) → R (get_or xs i x) (get_or ys i y))
      → AllZip R xs ys
  AllZip_from [] [] e h = tt
  AllZip_from [] (y ∷ ys) e h = absurd (omega arith)
  AllZip_from (x ∷ xs) [] e h = absurd (omega arith)
  AllZip_from (x ∷ xs) (y ∷ ys) e h =
      (h 0 (omega arith) x y, AllZip_from xs ys (omega arith) (λ i k a b. h (suc i) (omega arith) a b))

  -- a weaker fact
  pub AllZip-weaken : (S : X → Y → Type 0) → ((x : X) (y : Y) → R x y → S x y) → (xs : List X) (ys : List Y) → AllZip R xs ys → AllZip S xs ys
  AllZip-weaken S e [] [] h = h
  AllZip-weaken S e [] (y ∷ ys) h = h
  AllZip-weaken S e (x ∷ xs) [] h = h
  AllZip-weaken S e (x ∷ xs) (y ∷ ys) h = (e x y h.0, AllZip-weaken S e xs ys h.1)

  -- one element of the second list changed
  pub AllZip-set : (xs : List X) (ys : List Y) (i : ℕ) (x : X) (y : Y) → i < length xs → AllZip R xs ys → R (get_or xs i x) y → AllZip R xs (set ys i y)
  AllZip-set [] ys i x y k h here = absurd (omega arith)
  AllZip-set (a ∷ xs) [] i x y k h here = absurd h
  AllZip-set (a ∷ xs) (b ∷ ys) zero x y k h here = (here, h.1)
  AllZip-set (a ∷ xs) (b ∷ ys) (suc i) x y k h here =
      (h.0, AllZip-set xs ys i x y (omega arith) h.1 here)

  -- the first places, by one more
  pub AllZip_more : (xs : List X) (ys : List Y) (i : ℕ) (x : X) (y : Y) → i < length xs → i < length ys → AllZip R (take i xs) (take i ys)
      → R (get_or xs i x) (get_or ys i y) → AllZip R (take (i + 1) xs) (take (i + 1) ys)
  AllZip_more xs ys i x y h k before here = rw add-one (steps xs ys i x y h k before here)
    where
      steps : (xs : List X) (ys : List Y) (i : ℕ) (x : X) (y : Y) → i < length xs → i < length ys → AllZip R (take i xs) (take i ys)
          → R (get_or xs i x) (get_or ys i y) → AllZip R (take (suc i) xs) (take (suc i) ys)
      steps [] ys i x y h k before here = absurd (omega arith)
      steps (a ∷ xs) [] i x y h k before here = absurd (omega arith)
      steps (a ∷ xs) (b ∷ ys) zero x y h k before here = (here, tt)
      steps (a ∷ xs) (b ∷ ys) (suc i) x y h k before here =
          (before.0, steps xs ys i x y (omega arith) (omega arith) before.1 here)
