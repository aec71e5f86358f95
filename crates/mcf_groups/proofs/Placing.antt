-- Steps of the loop that lets members stand after a place.
use Rattle.std.proofs.Common.{◌≡◌, ℕ, ◌+◌, ◌-◌, ◌<◌, eqb, Bool, true, false, ◌||◌, List, [], ◌∷◌, ◌++◌, length, get_or, set, refl, ap, sym, ◌∙◌, arith, inl, inr}
use Rattle.std.specs.Prelude.{if◌then◌else◌}
use Rattle.std.proofs.lemmas.Bool.{cases_eq, eq-eqb, ne_eqb}
use Rattle.std.proofs.lemmas.List.{ext_get_or, get_or-set_other, get_or-set_same, length-set}
use Rattle.std.proofs.lemmas.List.Folds.{list_any-append}
use Rattle.std.proofs.lemmas.List.FromFn.{get_or-map-range_with_len}
use Rattle.mcf_flows.specs.Blocking.{in_list}
use Rattle.mcf_flows.specs.Network.{IsNode}
use Rattle.mcf_groups.specs.Nests.{entry, placed}
use Rattle.mcf_groups.proofs.Stages.{placed_long}

placed_entry : (place : ℕ) (ms before : List ℕ) (i : ℕ) → i < length before
    → get_or (placed place ms before) i 0 ≡ (if in_list ms (i + 1) then place else get_or before i 0)
placed_entry place ms before i h =
    get_or-map-range_with_len (λ u. if in_list ms u then place else entry before u) 1 (length before) i (i + 1) 0 h (omega arith)
    ∙ (let e : i + 1 - 1 ≡ i = omega arith in ap (λ j. if in_list ms (i + 1) then place else get_or before j 0) e)

pub placed_none : (place : ℕ) (before : List ℕ) → placed place [] before ≡ before
placed_none place before =
    ext_get_or 0 (placed place [] before) before (placed_long place [] before)
    (λ i l. placed_entry place [] before i (omega (arith, l, placed_long place [] before)))

or_none : (b : Bool) → (b || false) ≡ b
or_none true = refl
or_none false = refl

or_some : (b c : Bool) → c ≡ true → (b || c) ≡ true
or_some true c e = refl
or_some false c e = e

pub placed_more : (place : ℕ) (ms before : List ℕ) (u : ℕ) → IsNode (length before) u
    → set (placed place ms before) (u - 1) place ≡ placed place (ms ++ u ∷ []) before
placed_more place ms before u k =
    ext_get_or 0 (set (placed place ms before) (u - 1) place) (placed place (ms ++ u ∷ []) before)
    (length-set (placed place ms before) (u - 1) place ∙ placed_long place ms before ∙ sym (placed_long place (ms ++ u ∷ []) before))
    (λ i l. at i (omega (arith, l, length-set (placed place ms before) (u - 1) place, placed_long place ms before)))
  where
    at : (i : ℕ) → i < length before → get_or (set (placed place ms before) (u - 1) place) i 0 ≡ get_or (placed place (ms ++ u ∷ []) before) i 0
    at i l =
        elim (cases_eq i (u - 1)) [
          | inl same ↦
              let e : u ≡ i + 1 = omega (arith, same, k) in
              ap (λ j. get_or (set (placed place ms before) (u - 1) place) j 0) same
              ∙ get_or-set_same (placed place ms before) (u - 1) place 0 (omega (arith, k, placed_long place ms before))
              ∙ sym (placed_entry place (ms ++ u ∷ []) before i l
              ∙ ap (λ b. if b then place else get_or before i 0)
              (list_any-append (λ w. eqb w (i + 1)) ms (u ∷ []) ∙ or_some (in_list ms (i + 1)) (eqb u (i + 1) || false)
              (or_none (eqb u (i + 1)) ∙ eq-eqb u (i + 1) e)))
          | inr ne ↦
              let other : u ≡ i + 1 → ⊥ = λ bad. ne (omega (arith, bad)) in
              get_or-set_other (placed place ms before) (u - 1) i place 0 ne
              ∙ placed_entry place ms before i l
              ∙ sym (placed_entry place (ms ++ u ∷ []) before i l
              ∙ ap (λ b. if b then place else get_or before i 0)
              (list_any-append (λ w. eqb w (i + 1)) ms (u ∷ []) ∙ ap (λ b. in_list ms (i + 1) || (b || false)) (ne_eqb u (i + 1) other)
              ∙ or_none (in_list ms (i + 1))))
        ]
