use Rattle.std.proofs.Common.{◌≡◌, ◌∙◌, ◌<◌, ◌+◌, ◌++◌, Bool, ℕ, zero, suc, List, [], ◌∷◌, false, ap, drop, get_or, length, map, refl, set, take, arith}
use Rattle.mcf_model.specs.Complements.{turned_if}
use Rattle.mcf_groups.proofs.answering.turn_all.Goals as goal

next_turned : (f : Bool → Bool) (xs : List Bool) (i : ℕ) → i < length xs
    → set (map f (take i xs) ++ drop i xs) i (f (get_or (map f (take i xs) ++ drop i xs) i false)) ≡ map f (take (suc i) xs) ++ drop (suc i) xs
next_turned f [] i h = absurd (omega arith)
next_turned f (x ∷ xs) zero h = refl
next_turned f (x ∷ xs) (suc i) h = ap (λ ys. f x ∷ ys) (next_turned f xs i (omega arith))

pub loop-place-preserved : goal.loop-place-preserved
loop-place-preserved c =
    let f = turned_if c.args.turned in
    let xs = c.args.table.now in
    let i = c.loop-place.place in
    let few : i < length xs = omega arith in
    let one : suc i ≡ i + 1 = omega arith in
    ap (set c.loop-place.table i) c.turned_if.ensures
    ∙ ap (λ ys. set ys i (f (get_or ys i false))) c.loop-place.invariant
    ∙ next_turned f xs i few
    ∙ ap (λ k. map f (take k xs) ++ drop k xs) one
