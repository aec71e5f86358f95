-- The first cells that show a mark, with one cell more.
use Rattle.std.proofs.Common.{◌≡◌, ℕ, ◌+◌, inl, inr, Bool, true, false, List, [], ◌∷◌, ◌++◌, length, Option, sym, ap, ◌∙◌, arith, length-append}
use Rattle.std.specs.Prelude.{position, nat_lt, ◌==◌}
use Rattle.std.specs.List.{position_or_len}
use Rattle.std.proofs.lemmas.Bool.{cases_Bool, cases_lt, eq-eqb, le-ltb, lt-ltb, ne_eqb}
use Rattle.std.proofs.lemmas.List.Folds.{position_or_len_push}
use Rattle.std.proofs.lemmas.List.Sums.{prefix_len-le-length}
use Rattle.std.specs.Prelude.{not}
use Rattle.mcf_decimal.specs.Numbers.{mark_in}
use Rattle.mcf_decimal.specs.Settled.{first_place, is_the, marks_of, shows}
use Rattle.mcf_decimal.specs.declared.mark.Mark.{Mark}
use Rattle.mcf_decimal.specs.declared.mark.Mark.TheVariants.{Point, Comma}
use Rattle.mcf_decimal.specs.declared.settled.Marks.{Marks}

pub position_push : (p : List ℕ → Bool) (xs : List (List ℕ)) (y : List ℕ)
    → position p (xs ++ y ∷ []) ≡ first_place (position p xs) (p y) (length xs)
position_push p xs y =
    let n = position_or_len p xs in
    let e = position_or_len_push p xs y in
    let most = prefix_len-le-length (λ x. not (p x)) xs in
    let long : length (xs ++ y ∷ []) ≡ length xs + 1 = length-append xs (y ∷ []) in
    elim (cases_lt n (length xs)) [
      | inl below ↦
          let apart : (n == length xs) ≡ false = ne_eqb n (length xs) (λ e. omega (arith, e, below)) in
          let same : position_or_len p (xs ++ y ∷ []) ≡ n = rw apart at e in
          let here : nat_lt n (length xs) ≡ true = lt-ltb n (length xs) below in
          let there : nat_lt n (length (xs ++ y ∷ [])) ≡ true = lt-ltb n (length (xs ++ y ∷ [])) (omega (arith, long, below)) in
          rw (same, there, here)
      | inr past ↦
          let together : (n == length xs) ≡ true = eq-eqb n (length xs) (omega (arith, past, most)) in
          let none : nat_lt n (length xs) ≡ false = le-ltb n (length xs) past in
          elim (cases_Bool (p y)) [
            | inl is ↦
                let first : position_or_len p (xs ++ y ∷ []) ≡ length xs = (rw (together, is) at e) ∙ sum_none (length xs) in
                let there : nat_lt (length xs) (length (xs ++ y ∷ [])) ≡ true = lt-ltb (length xs) (length (xs ++ y ∷ [])) (omega (arith, long)) in
                rw (first, there, none, is)
            | inr fails ↦
                let first : position_or_len p (xs ++ y ∷ []) ≡ length xs + 1 = rw (together, fails) at e in
                let over : nat_lt (length xs + 1) (length (xs ++ y ∷ [])) ≡ false = le-ltb (length xs + 1) (length (xs ++ y ∷ [])) (omega (arith, long)) in
                rw (first, over, none, fails)
          ]
    ]
  where
    sum_none : (a : ℕ) → a + 0 ≡ a
    sum_none a = omega arith

-- the marks by their parts
abbrev pub made_marks : ℕ → Option ℕ → Option ℕ → Marks
made_marks seen point comma = record { seen = seen; point = point; comma = comma }

pub with_more : (cells : List (List ℕ)) (cell : List ℕ) (old : Marks) (shown : Option Mark) (point comma : Option ℕ)
    → old ≡ marks_of cells → shown ≡ mark_in cell → point ≡ first_place old.point (is_the Point shown) old.seen
    → comma ≡ first_place old.comma (is_the Comma shown) old.seen → made_marks (old.seen + 1) point comma ≡ marks_of (cells ++ cell ∷ [])
unfolding marks_of shows
with_more cells cell old shown point comma is said p q =
    let seen : old.seen ≡ length cells = ap (λ (m : Marks). m.seen) is in
    let points : old.point ≡ position (shows Point) cells = ap (λ (m : Marks). m.point) is in
    let commas : old.comma ≡ position (shows Comma) cells = ap (λ (m : Marks). m.comma) is in
    let long : old.seen + 1 ≡ length (cells ++ cell ∷ []) = omega (arith, seen, length-append cells (cell ∷ [])) in
    let first : point ≡ position (shows Point) (cells ++ cell ∷ []) =
    p ∙ ap (λ (f : Option ℕ). first_place f (is_the Point shown) old.seen) points
    ∙ ap (λ (n : ℕ). first_place (position (shows Point) cells) (is_the Point shown) n) seen
    ∙ ap (λ (m : Option Mark). first_place (position (shows Point) cells) (is_the Point m) (length cells)) said
    ∙ sym (position_push (shows Point) cells cell) in
    let second : comma ≡ position (shows Comma) (cells ++ cell ∷ []) =
    q ∙ ap (λ (f : Option ℕ). first_place f (is_the Comma shown) old.seen) commas
    ∙ ap (λ (n : ℕ). first_place (position (shows Comma) cells) (is_the Comma shown) n) seen
    ∙ ap (λ (m : Option Mark). first_place (position (shows Comma) cells) (is_the Comma m) (length cells)) said
    ∙ sym (position_push (shows Comma) cells cell) in
    ap (λ (n : ℕ). made_marks n point comma) long
    ∙ ap (λ (f : Option ℕ). made_marks (length (cells ++ cell ∷ [])) f comma) first
    ∙ ap (λ (f : Option ℕ). made_marks (length (cells ++ cell ∷ [])) (position (shows Point) (cells ++ cell ∷ [])) f) second
