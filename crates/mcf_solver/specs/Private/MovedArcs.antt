-- The arcs that a sparse answer names.
use Rattle.std.specs.Prelude.{◌≤◌, ℕ, List, length, ℤ}
use Rattle.std.specs.List.{All}
use Rattle.std.specs.List.Sorted.{IsStrictlyIncreasing}
use Rattle.mcf_answer.specs.SparseSolution.{IsMoved, arc_numbers}
use Rattle.mcf_flows.specs.Network.{Network}

-- they are of the instance, in range, each with an amount, and ascend
pub record AreMovedOf (g : Network) (moved : List (ℕ × ℤ)) : Type 0 where
  pub of_instance : All (λ m. m.0 ≤ length g.arcs) moved
  pub fit : All IsMoved moved
  pub ascending : IsStrictlyIncreasing (arc_numbers moved)
