-- Rules that look at all arcs.
use Rattle.std.proofs.Common.{ℕ, ◌<◌}
use Rattle.mcf_basis.specs.Pivots.{IsEligible}
use Rattle.mcf_basis.specs.Structures.{TreeStructure}

-- none of the arcs of a number below n is eligible
abbrev pub HasNoneBelow : TreeStructure → ℕ → Type 0
HasNoneBelow b n = (j : ℕ) → j < n → ¬ IsEligible b j
