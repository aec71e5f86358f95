-- Cells in one buffer.
use Rattle.std.proofs.Common.{◌≡◌, ℕ, zero, suc, ◌+◌, ◌<◌, ◌≤◌, Bool, not, List, [], ◌∷◌, ◌++◌, length, take, drop, get_or, map, All, refl, sym, ap, ap₂, ◌∙◌, arith, append_assoc, append-nil, length-drop, length-take, drop-drop, get_or-drop, add-zero, inl, inr}
use Rattle.std.specs.Prelude.{◌==◌, ◌||◌, OnErr, Result, Ok, Err}
use Rattle.std.specs.List.{list_any}
use Rattle.std.proofs.lemmas.Bool.{cases_Bool, eqb-true}
use Rattle.std.proofs.lemmas.List.{map_push, drop_all, take-append-le, drop-append-le}
use Rattle.std.proofs.lemmas.List.Elements.{All-head, All-tail, All-drop}
use Rattle.std.proofs.Math.Seq.{drop-append_seam, take-length}
use Rattle.mcf_table.specs.Rows.{doubled, quote}
use Rattle.mcf_table.specs.Texts.{is_filled}
use Rattle.mcf_table.specs.declared.cells.Span.{Span}

-- the part of a list from a place on
pub part_more : {A : Type 0} (xs more : List A) (start len : ℕ) → start + len ≤ length xs
    → take len (drop start (xs ++ more)) ≡ take len (drop start xs)
part_more xs more start len inside =
    ap (take len) (drop-append-le start xs more (omega (arith, inside)))
    ∙ take-append-le len (drop start xs) more (omega (arith, inside, length-drop start xs))

-- a fact holds after an error
pub on_err : {A E P : Type 0} (r : Result A E) → P → OnErr r P
on_err (Ok a) p = tt
on_err (Err e) p = p

abbrev pub part : List ℕ → Span → List ℕ
part bytes s = take s.len (drop s.start bytes)

abbrev pub IsInside : List ℕ → Span → Type 0
IsInside bytes s = s.start + s.len ≤ length bytes

parts_more : (bytes more : List ℕ) (spans : List Span) → All (IsInside bytes) spans → map (part (bytes ++ more)) spans ≡ map (part bytes) spans
parts_more bytes more [] inside = refl
parts_more bytes more (s ∷ spans) inside =
    ap₂ (λ (xs : List ℕ) (xss : List (List ℕ)). xs ∷ xss) (part_more bytes more s.start s.len (All-head (IsInside bytes) s spans inside))
    (parts_more bytes more spans (All-tail (IsInside bytes) s spans inside))

abbrev span : ℕ → ℕ → Span
span start len = record { start = start; len = len }

pub pushed : (bytes bytes2 cell : List ℕ) (spans spans2 : List Span) (old : List (List ℕ)) (start len : ℕ) → All (IsInside bytes) spans
    → old ≡ map (part bytes) spans → bytes2 ≡ bytes ++ cell → spans2 ≡ spans ++ span start len ∷ [] → start ≡ length bytes → len ≡ length cell
    → map (part bytes2) spans2 ≡ old ++ cell ∷ []
pushed bytes bytes2 cell spans spans2 old start len inside view longer more at size =
    let new : take len (drop start (bytes ++ cell)) ≡ cell =
    ap₂ (λ (n m : ℕ). take n (drop m (bytes ++ cell))) size at ∙ ap (take (length cell)) (drop-append_seam bytes cell) ∙ take-length cell in
    ap₂ (λ (xs : List ℕ) (ss : List Span). map (part xs) ss) longer more
    ∙ map_push (part (bytes ++ cell)) spans (span start len)
    ∙ ap₂ (λ (xss : List (List ℕ)) (xs : List ℕ). xss ++ xs ∷ []) (parts_more bytes cell spans inside ∙ sym view) new

-- more bytes change no cell
pub still_parts : (bytes bytes2 more : List ℕ) (spans spans2 : List Span) (old : List (List ℕ)) → All (IsInside bytes) spans
    → old ≡ map (part bytes) spans → bytes2 ≡ bytes ++ more → spans2 ≡ spans → map (part bytes2) spans2 ≡ old
still_parts bytes bytes2 more spans spans2 old inside view longer same =
    ap₂ (λ (xs : List ℕ) (ss : List Span). map (part xs) ss) longer same ∙ parts_more bytes more spans inside ∙ sym view

drop-map : (bytes : List ℕ) (n : ℕ) (spans : List Span) → drop n (map (part bytes) spans) ≡ map (part bytes) (drop n spans)
drop-map bytes zero spans = refl
drop-map bytes (suc n) [] = refl
drop-map bytes (suc n) (s ∷ spans) = drop-map bytes n spans

filled_parts : (bytes : List ℕ) (spans : List Span) → All (IsInside bytes) spans
    → list_any (λ s. not (s.len == 0)) spans ≡ list_any is_filled (map (part bytes) spans)
filled_parts bytes [] inside = refl
filled_parts bytes (s ∷ spans) inside =
    let here : s.start + s.len ≤ length bytes = All-head (IsInside bytes) s spans inside in
    let len : s.len ≡ length (part bytes s) = omega (arith, here, length-take s.len (drop s.start bytes), length-drop s.start bytes) in
    ap₂ (λ (n : ℕ) (b : Bool). not (n == 0) || b) len (filled_parts bytes spans (All-tail (IsInside bytes) s spans inside))

pub filled_from : (bytes : List ℕ) (spans : List Span) (old : List (List ℕ)) (first : ℕ) → All (IsInside bytes) spans → old ≡ map (part bytes) spans
    → list_any (λ s. not (s.len == 0)) (drop first spans) ≡ list_any is_filled (drop first old)
filled_from bytes spans old first inside view =
    filled_parts bytes (drop first spans) (All-drop (IsInside bytes) first spans inside)
    ∙ ap (list_any is_filled) (sym (drop-map bytes first spans) ∙ ap (drop first) (sym view))

-- the bytes still to be read are these, with each quote twice
abbrev pub IsUndoubled : List ℕ → ℕ → List ℕ → List ℕ → Type 0
IsUndoubled bytes at made inside = (rest : List ℕ) × (inside ≡ made ++ rest) × (drop at bytes ≡ doubled rest)

first_is : (bytes : List ℕ) (at : ℕ) (b : ℕ) (bs : List ℕ) → drop at bytes ≡ b ∷ bs → get_or bytes at 0 ≡ b
first_is bytes at b bs is =
    ap (λ (n : ℕ). get_or bytes n 0) (sym (add-zero at)) ∙ sym (get_or-drop at bytes 0 0) ∙ ap (λ (xs : List ℕ). get_or xs 0 0) is

pub undouble_step : (bytes : List ℕ) (at : ℕ) (made made2 inside : List ℕ) (step : ℕ) → at < length bytes → IsUndoubled bytes at made inside
    → made2 ≡ made ++ get_or bytes at 0 ∷ [] → step ≡ length (doubled (get_or bytes at 0 ∷ [])) → IsUndoubled bytes (at + step) made2 inside
undouble_step bytes at made made2 inside step below ([], split, left) more size =
    absurd (omega (arith, below, ap length left, length-drop at bytes))
undouble_step bytes at made made2 inside step below (x ∷ xs, split, left) more size =
    elim (cases_Bool (x == quote)) [
      | inl is ↦
          let left2 : drop at bytes ≡ quote ∷ quote ∷ doubled xs = rw is at left in
          let here : get_or bytes at 0 ≡ quote = first_is bytes at quote (quote ∷ doubled xs) left2 in
          let two : step ≡ 2 = size ∙ ap (λ (b : ℕ). length (doubled (b ∷ []))) here in (
            xs,
            joined (here ∙ sym (eqb-true x quote is)),
            ap (λ (n : ℕ). drop (at + n) bytes) two ∙ sym (drop-drop 2 at bytes) ∙ ap (drop 2) left2,
          )
      | inr other ↦
          let left2 : drop at bytes ≡ x ∷ doubled xs = rw other at left in
          let here : get_or bytes at 0 ≡ x = first_is bytes at x (doubled xs) left2 in
          let one : step ≡ 1 = size ∙ ap (λ (b : ℕ). length (doubled (b ∷ []))) here ∙ rw other refl in
          (xs, joined here, ap (λ (n : ℕ). drop (at + n) bytes) one ∙ sym (drop-drop 1 at bytes) ∙ ap (drop 1) left2)
    ]
  where
    joined : get_or bytes at 0 ≡ x → inside ≡ made2 ++ xs
    joined here =
        split ∙ sym (ap (λ (ys : List ℕ). ys ++ xs) (more ∙ ap (λ (b : ℕ). made ++ b ∷ []) here) ∙ append_assoc made (x ∷ []) xs)

no_doubled : (rest : List ℕ) → [] ≡ doubled rest → rest ≡ []
no_doubled [] is = refl
no_doubled (x ∷ xs) is =
    elim (cases_Bool (x == quote)) [
      | inl same ↦ absurd (omega (arith, ap length (rw same at is)))
      | inr other ↦ absurd (omega (arith, ap length (rw other at is)))
    ]

pub undouble_end : (bytes : List ℕ) (at : ℕ) (made inside : List ℕ) → length bytes ≤ at → IsUndoubled bytes at made inside → made ≡ inside
undouble_end bytes at made inside past (rest, split, left) =
    let none : rest ≡ [] = no_doubled rest (sym (drop_all at bytes past) ∙ left) in
    sym (split ∙ ap (λ (ys : List ℕ). made ++ ys) none ∙ append-nil made)
