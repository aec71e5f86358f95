-- Lists of faults, one more at a time.
use Rattle.std.proofs.Common.{◌≡◌, ℕ, ◌+◌, ◌<◌, Bool, true, false, List, [], ◌∷◌, ◌++◌, length, map, drop, get_or, refl, ap, sym, ◌∙◌, append_assoc}
use Rattle.std.specs.Prelude.{filter}
use Rattle.std.proofs.lemmas.List.{at_drop_more}

module _ {X Y : Type 0} (test : X → Bool) (told : X → Y) (xs : List X) (k : ℕ) (d : X) (found want : List Y) (below : k < length xs)
    (left : found ++ map told (filter test (drop k xs)) ≡ want) where
  hit : test (get_or xs k d) ≡ true → filter test (drop k xs) ≡ get_or xs k d ∷ filter test (drop (k + 1) xs)
  hit is = at_drop_more (filter test) xs k d below ∙ rw is refl

  miss : test (get_or xs k d) ≡ false → filter test (drop k xs) ≡ filter test (drop (k + 1) xs)
  miss is = at_drop_more (filter test) xs k d below ∙ rw is refl

  pub one_more : (new : List Y) → test (get_or xs k d) ≡ true → new ≡ found ++ told (get_or xs k d) ∷ []
      → new ++ map told (filter test (drop (k + 1) xs)) ≡ want
  one_more new is more =
      ap (λ ys. ys ++ map told (filter test (drop (k + 1) xs))) more
      ∙ append_assoc found (told (get_or xs k d) ∷ []) (map told (filter test (drop (k + 1) xs)))
      ∙ ap (λ ys. found ++ map told ys) (sym (hit is)) ∙ left

  pub none_more : (new : List Y) → test (get_or xs k d) ≡ false → new ≡ found → new ++ map told (filter test (drop (k + 1) xs)) ≡ want
  none_more new is same =
      ap (λ ys. ys ++ map told (filter test (drop (k + 1) xs))) same ∙ ap (λ ys. found ++ map told ys) (sym (miss is)) ∙ left
