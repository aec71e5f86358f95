-- The capacity of steps, as a loop adds it up.
use Rattle.std.proofs.Common.{◌≡◌, ℕ, zero, suc, ◌+◌, ◌<◌, List, [], ◌∷◌, add-one, ap, sym, ◌∙◌, arith, get_or, length, take, ℤ, pos, ◌+ℤ◌}
use Rattle.std.proofs.lemmas.Int.{ints}
use Rattle.mcf_model.specs.declared.rows.Step.{Step}
use Rattle.mcf_model.specs.Model.{room}

pub room_plus : (steps : List Step) (most : ℤ) → room steps most ≡ room steps (pos 0) +ℤ most
room_plus [] most = omega (arith, ints)
room_plus (s ∷ steps) most = omega (arith, ints, room_plus steps most)

pub room_next : (steps : List Step) (i : ℕ) (d : Step) (x : ℤ) → x ≡ (get_or steps i d).most → i < length steps
    → room (take (i + 1) steps) (pos 0) ≡ room (take i steps) (pos 0) +ℤ x
room_next steps i d x e h = rw add-one (go steps i h ∙ ap (λ z. room (take i steps) (pos 0) +ℤ z) (sym e))
  where
    go : (steps : List Step) (i : ℕ) → i < length steps → room (take (suc i) steps) (pos 0) ≡ room (take i steps) (pos 0) +ℤ (get_or steps i d).most
    go [] i h = absurd (omega arith)
    go (s ∷ steps) zero h = omega (arith, ints)
    go (s ∷ steps) (suc i) h = omega (arith, ints, go steps i (omega arith))
