-- Texts that lose a blank after the other.
use Rattle.std.proofs.Common.{◌≡◌, ℕ, zero, suc, ◌<◌, ◌≤◌, ◌-◌, List, [], ◌∷◌, length, take, drop, refl, sym, ap, ◌∙◌, arith, length-drop, length-take, inl, inr, take_all}
use Rattle.std.specs.Prelude.{◌⊎◌}
use Rattle.std.proofs.lemmas.Bool.{cases_lt}
use Rattle.mcf_table.specs.Blanks.{back_blank, back_trimmed, front_blank, front_trimmed, repeated, without_back, without_front}

-- a change leaves the text as it is, or shortens it
abbrev pub Shortens : (List ℕ → List ℕ) → Type 0
Shortens change = (text : List ℕ) → (change text ≡ text) ⊎ (length (change text) < length text)

fixed : (change : List ℕ → List ℕ) (n : ℕ) (text : List ℕ) → change text ≡ text → repeated n change text ≡ text
fixed change zero text same = refl
fixed change (suc n) text same = ap (repeated n change) same ∙ fixed change n text same

short_fixed : (change : List ℕ → List ℕ) → Shortens change → (text : List ℕ) → length text ≤ 0 → change text ≡ text
short_fixed change short text none =
    elim (short text) [
      | inl same ↦ same
      | inr less ↦ absurd (omega (arith, less, none))
    ]

-- any number of changes that is enough leaves the same
enough : (change : List ℕ → List ℕ) → Shortens change → (n m : ℕ) (text : List ℕ) → length text ≤ n → length text ≤ m
    → repeated n change text ≡ repeated m change text
enough change short zero m text few less = sym (fixed change m text (short_fixed change short text few))
enough change short (suc n) zero text few less = fixed change (suc n) text (short_fixed change short text less)
enough change short (suc n) (suc m) text few less =
    elim (short text) [
      | inl same ↦ ap (repeated n change) same ∙ fixed change n text same ∙ sym (ap (repeated m change) same ∙ fixed change m text same)
      | inr shorter ↦ enough change short n m (change text) (omega (arith, few, shorter)) (omega (arith, less, shorter))
    ]

step : (change : List ℕ → List ℕ) → Shortens change → (text : List ℕ)
    → repeated (length text) change text ≡ repeated (length (change text)) change (change text)
step change short text =
    elim (short text) [
      | inl same ↦ ap (λ (t : List ℕ). repeated (length t) change t) (sym same)
      | inr shorter ↦
          let e : length text ≡ suc (length text - 1) = omega (arith, shorter) in
          ap (λ (n : ℕ). repeated n change text) e
          ∙ enough change short (length text - 1) (length (change text)) (change text) (omega (arith, shorter)) (omega arith)
    ]

front_shortens : Shortens without_front
front_shortens text =
    elim (cases_lt 0 (front_blank text)) [
      | inl some ↦
          elim (cases_lt 0 (length text)) [
            | inl more ↦ inr (omega (arith, length-drop (front_blank text) text, some, more))
            | inr none ↦ inl (empty text (front_blank text) none)
          ]
      | inr none ↦ inl (let e : front_blank text ≡ 0 = omega (arith, none) in ap (λ (n : ℕ). drop n text) e)
    ]
  where
    empty : (xs : List ℕ) (n : ℕ) → length xs ≤ 0 → drop n xs ≡ xs
    empty [] zero none = refl
    empty [] (suc n) none = refl
    empty (x ∷ xs) n none = absurd (omega (arith, none))

back_shortens : Shortens without_back
back_shortens text =
    let len = length text - back_blank text in
    elim (cases_lt len (length text)) [
      | inl less ↦ inr (omega (arith, length-take len text, less))
      | inr past ↦ inl (take_all len text (omega (arith, past)))
    ]

pub front_step : (text : List ℕ) → front_trimmed text ≡ front_trimmed (drop (front_blank text) text)
unfolding front_trimmed
front_step text = step without_front front_shortens text

pub front_stop : (text : List ℕ) → front_blank text ≡ 0 → front_trimmed text ≡ text
unfolding front_trimmed
front_stop text none = fixed without_front (length text) text (ap (λ (n : ℕ). drop n text) none)

pub back_step : (text : List ℕ) → back_trimmed text ≡ back_trimmed (take (length text - back_blank text) text)
unfolding back_trimmed
back_step text = step without_back back_shortens text

pub back_stop : (text : List ℕ) → back_blank text ≡ 0 → back_trimmed text ≡ text
unfolding back_trimmed
back_stop text none = fixed without_back (length text) text (take_all (length text - back_blank text) text (omega (arith, none)))
