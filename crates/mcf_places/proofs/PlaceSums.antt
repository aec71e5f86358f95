-- Facts and sums over places.
use Rattle.std.proofs.Common.{◌≡◌, ℕ, suc, ◌+◌, ◌-◌, ◌<◌, ◌≤◌, List, [], ◌∷◌, length, get_or, refl, ap, sym, ◌∙◌, subst, arith, ℤ, pos, ◌+ℤ◌, ◌-ℤ◌, ◌≤ℤ◌, inl, inr}
use Rattle.std.proofs.Math.IntN.{◌*ℤ◌}
use Rattle.std.proofs.lemmas.Int.{ints}
use Rattle.std.proofs.lemmas.Bool.{cases_eq}
use Rattle.mcf_flows.proofs.IntLaws.{mul-add, mul-zero}
use Rattle.mcf_places.specs.declared.places.Place.{Place}
use Rattle.mcf_places.specs.Planners.{EachPlace, place_sum}

-- ---- facts of each place

module _ (R : ℕ → Place → Type 0) where
  -- what holds of every place with such a number
  pub each_all : (v : ℕ) (ps : List Place) → ((j : ℕ) (p : Place) → v ≤ j → j < v + length ps → R j p) → EachPlace R v ps
  each_all v [] h = tt
  each_all v (p ∷ ps) h = (h v p (omega arith) (omega arith), each_all (suc v) ps (λ j q a b. h j q (omega arith) (omega arith)))

  pub each_at : (v : ℕ) (ps : List Place) (w : ℕ) (d : Place) → EachPlace R v ps → v ≤ w → w < v + length ps → R w (get_or ps (w - v) d)
  each_at v [] w d h a b = absurd (omega arith)
  each_at v (p ∷ ps) w d h a b =
      elim (cases_eq w v) [
        | inl same ↦ let e : w - v ≡ 0 = omega arith in subst (λ k. R w (get_or (p ∷ ps) k d)) (sym e) (subst (λ k. R k p) (sym same) h.0)
        | inr other ↦ let e : w - v ≡ suc (w - suc v) = omega arith in
            subst (λ k. R w (get_or (p ∷ ps) k d)) (sym e) (each_at (suc v) ps w d h.1 (omega arith) (omega arith))
      ]

  pub each_from : (v : ℕ) (ps : List Place) (d : Place) → ((w : ℕ) → v ≤ w → w < v + length ps → R w (get_or ps (w - v) d)) → EachPlace R v ps
  each_from v [] d h = tt
  each_from v (p ∷ ps) d h = (
    let e : v - v ≡ 0 = omega arith in subst (λ k. R v (get_or (p ∷ ps) k d)) e (h v (omega arith) (omega arith)),
    each_from (suc v) ps d
        (λ w a b. let e : w - v ≡ suc (w - suc v) = omega arith in subst (λ k. R w (get_or (p ∷ ps) k d)) e (h w (omega arith) (omega arith))),
  )

  -- what follows from it of each place
  pub each_map : (S : ℕ → Place → Type 0) → ((j : ℕ) (p : Place) → R j p → S j p) → (v : ℕ) (ps : List Place) → EachPlace R v ps → EachPlace S v ps
  each_map S f v [] h = tt
  each_map S f v (p ∷ ps) h = (f v p h.0, each_map S f (suc v) ps h.1)

-- ---- sums

pub place_sum-same : (s t : ℕ → Place → ℤ) (v : ℕ) (ps : List Place) → EachPlace (λ j p. s j p ≡ t j p) v ps → place_sum s v ps ≡ place_sum t v ps
place_sum-same s t v [] h = refl
place_sum-same s t v (p ∷ ps) h = omega (arith, ints, h.0, place_sum-same s t (suc v) ps h.1)

pub place_sum-sub : (s t : ℕ → Place → ℤ) (v : ℕ) (ps : List Place) → place_sum (λ j p. s j p -ℤ t j p) v ps ≡ place_sum s v ps -ℤ place_sum t v ps
place_sum-sub s t v [] = refl
place_sum-sub s t v (p ∷ ps) = omega (arith, ints, place_sum-sub s t (suc v) ps)

pub place_sum-add : (s t : ℕ → Place → ℤ) (v : ℕ) (ps : List Place) → place_sum (λ j p. s j p +ℤ t j p) v ps ≡ place_sum s v ps +ℤ place_sum t v ps
place_sum-add s t v [] = refl
place_sum-add s t v (p ∷ ps) = omega (arith, ints, place_sum-add s t (suc v) ps)

pub place_sum-mul : (k : ℤ) (t : ℕ → Place → ℤ) (v : ℕ) (ps : List Place) → place_sum (λ j p. k *ℤ t j p) v ps ≡ k *ℤ place_sum t v ps
place_sum-mul k t v [] = sym (mul-zero k)
place_sum-mul k t v (p ∷ ps) =
    ap (λ z. k *ℤ t v p +ℤ z) (place_sum-mul k t (suc v) ps) ∙ sym (mul-add k (t v p) (place_sum t (suc v) ps))

pub place_sum-le : (s t : ℕ → Place → ℤ) (v : ℕ) (ps : List Place) → EachPlace (λ j p. s j p ≤ℤ t j p) v ps → place_sum s v ps ≤ℤ place_sum t v ps
place_sum-le s t v [] h = omega (arith, ints)
place_sum-le s t v (p ∷ ps) h = omega (arith, ints, h.0, place_sum-le s t (suc v) ps h.1)

pub place_sum-zero : (t : ℕ → Place → ℤ) (v : ℕ) (ps : List Place) → EachPlace (λ j p. t j p ≡ pos 0) v ps → place_sum t v ps ≡ pos 0
place_sum-zero t v [] h = refl
place_sum-zero t v (p ∷ ps) h = omega (arith, ints, h.0, place_sum-zero t (suc v) ps h.1)

-- a sum of which one term alone isn't 0
pub place_sum-one : (t : ℕ → Place → ℤ) (v : ℕ) (ps : List Place) (w : ℕ) (d : Place) → v ≤ w → w < v + length ps
    → EachPlace (λ j p. (j ≡ w → ⊥) → t j p ≡ pos 0) v ps → place_sum t v ps ≡ t w (get_or ps (w - v) d)
place_sum-one t v [] w d a b h = absurd (omega arith)
place_sum-one t v (p ∷ ps) w d a b h =
    elim (cases_eq w v) [
      | inl same ↦ let e : w - v ≡ 0 = omega arith in
          let rest = place_sum-zero t (suc v) ps
          (each_from (λ j q. t j q ≡ pos 0) (suc v) ps d
          (λ j c f. each_at (λ j q. (j ≡ w → ⊥) → t j q ≡ pos 0) (suc v) ps j d h.1 c f (λ bad. absurd (omega arith)))) in
          let here : t w (get_or (p ∷ ps) (w - v) d) ≡ t v p = ap (λ k. t w (get_or (p ∷ ps) k d)) e ∙ ap (λ k. t k p) same in
          omega (arith, ints, rest, here)
      | inr other ↦ let e : w - v ≡ suc (w - suc v) = omega arith in
          let first = h.0 (λ bad. other (sym bad)) in
          let rest = place_sum-one t (suc v) ps w d (omega arith) (omega arith) h.1 in
          let here = ap (λ k. t w (get_or (p ∷ ps) k d)) e in
          omega (arith, ints, first, rest, here)
    ]
