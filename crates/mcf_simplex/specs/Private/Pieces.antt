-- What blocks of pieces give, from one place up to another.
use Rattle.std.specs.Prelude.{◌≡◌, ℕ, Option, Some, None}
use Rattle.mcf_basis.specs.Structures.{TreeStructure}
use Rattle.mcf_basis.specs.Violations.{HasNoneOf}
use Rattle.mcf_simplex.specs.Following.{IsFirstBlock, IsInBlockOf}

-- the first block that has an eligible arc gives one, or none has
abbrev pub IsFirstBlockOrNone : TreeStructure → ℕ → ℕ → ℕ → ℕ → Option ℕ → ℕ → Type 0
IsFirstBlockOrNone b length piece from until (Some k) next = IsFirstBlock b length piece from until k next
IsFirstBlockOrNone b length piece from until None next = HasNoneOf b (IsInBlockOf length from until) × (next ≡ until)
