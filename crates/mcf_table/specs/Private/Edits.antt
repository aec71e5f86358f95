-- How one word becomes another by one edit.
use Rattle.std.specs.Prelude.{ℕ, ◌==◌, Bool, false, List, [], ◌∷◌}

-- both words begin with the same letter
abbrev pub begin_alike : List ℕ → List ℕ → Bool
begin_alike [] other = false
begin_alike (x ∷ one) [] = false
begin_alike (x ∷ one) (y ∷ other) = x == y
