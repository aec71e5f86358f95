-- The numbers of a list of prices, entry by entry.
use Rattle.std.proofs.Common.{◌≡◌, ℕ, ◌<◌, List, ap, get_or, length, map, pos, sym, ℤ, ◌∙◌}
use Rattle.std.proofs.lemmas.List.{get_or-map, length-map}

module _ {P : Type 0} (value : P → ℤ) (values : List P → List ℤ) (each : (prices : List P) → values prices ≡ map value prices) where
  pub values_length : (xs : List P) → length (values xs) ≡ length xs
  values_length xs = ap length (each xs) ∙ length-map xs value

  pub values_read : (xs : List P) (i : ℕ) (x : P) → i < length xs → x ≡ get_or xs i x → value x ≡ get_or (values xs) i (pos 0)
  values_read xs i x h e =
      ap value e ∙ (sym (get_or-map value xs i x (pos 0) h) ∙ ap (λ (zs : List ℤ). get_or zs i (pos 0)) (sym (each xs)))
