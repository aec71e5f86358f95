-- The total of some lines and one more.
use Rattle.std.proofs.Common.{◌≡◌, ℕ, ◌+◌, true, false, cond, List, [], ◌∷◌, ◌++◌, map, refl, ◌∙◌, ap, arith}
use Rattle.std.specs.Prelude.{filter, sum}
use Rattle.std.proofs.lemmas.List.{map-append}
use Rattle.std.proofs.lemmas.List.Elements.{filter-append}
use Rattle.std.proofs.lemmas.List.Sums.{sum_by-append}
use Rattle.mcf_text.specs.Row.{Row, with_earlier}
use Rattle.mcf_instance.specs.Fault.{is_counted, line_weight, total_of}

pub with_earlier-append_one : {X : Type 0} (xs : List X) (x : X) → with_earlier (xs ++ x ∷ []) ≡ with_earlier xs ++ (xs, x) ∷ []
with_earlier-append_one [] x = refl
with_earlier-append_one (y ∷ ys) x = rw (with_earlier-append_one ys x, map-append) refl

-- the weights of those lines, each with the ones before it, that are counted
abbrev weights : List (List Row × Row) → List ℕ
weights lines = map (λ line. line_weight line.1) (filter (λ line. is_counted line.0 line.1) lines)

weights-append : (xs ys : List (List Row × Row)) → weights (xs ++ ys) ≡ weights xs ++ weights ys
weights-append xs ys =
    ap (map (λ line. line_weight line.1)) (filter-append (λ line. is_counted line.0 line.1) xs ys)
    ∙ map-append (λ line. line_weight line.1) (filter (λ line. is_counted line.0 line.1) xs) (filter (λ line. is_counted line.0 line.1) ys)

total-append : (lines : List Row) (row : Row) → total_of (lines ++ row ∷ []) ≡ total_of lines + sum (weights ((lines, row) ∷ []))
unfolding total_of
total-append lines row =
    ap (λ ls. sum (weights ls)) (with_earlier-append_one lines row)
    ∙ ap sum (weights-append (with_earlier lines) ((lines, row) ∷ []))
    ∙ sum_by-append (λ n. n) (weights (with_earlier lines)) (weights ((lines, row) ∷ []))

pub sum_one : (n : ℕ) → sum (n ∷ []) ≡ n
sum_one n = omega arith

-- a line that is counted adds its weight
pub total-append_counted : (lines : List Row) (row : Row) → is_counted lines row ≡ true → total_of (lines ++ row ∷ []) ≡ total_of lines + line_weight row
total-append_counted lines row e =
    total-append lines row
    ∙ ap (λ b. total_of lines + sum (map (λ (line : List Row × Row). line_weight line.1) (cond b ((lines, row) ∷ []) []))) e
    ∙ ap (λ n. total_of lines + n) (sum_one (line_weight row))

-- any other line adds nothing
pub total-append_other : (lines : List Row) (row : Row) → is_counted lines row ≡ false → total_of (lines ++ row ∷ []) ≡ total_of lines
total-append_other lines row e =
    total-append lines row
    ∙ ap (λ b. total_of lines + sum (map (λ (line : List Row × Row). line_weight line.1) (cond b ((lines, row) ∷ []) []))) e
    ∙ nothing_more (total_of lines)
  where
    nothing_more : (n : ℕ) → n + 0 ≡ n
    nothing_more n = omega arith
