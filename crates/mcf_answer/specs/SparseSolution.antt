-- What a clause sees of a flow answer that names some arcs alone.
-- Source: own
use Rattle.std.specs.Prelude.{ℕ, ◌≤◌, List, length, map, ℤ, All}
use Rattle.std.specs.List.Sorted.{IsStrictlyIncreasing}
use Rattle.mcf_answer.specs.Ranges.{IsAmount, IsArcInRange}
use Rattle.mcf_flows.specs.Limits.{node_limit}

-- a flow with its cost and prices: some arcs by their numbers, each with what it carries, and the
-- price of each node from node 1 on; any other arc carries its lower bound
pub record SparseSolution : Type 0 where
  pub cost : ℤ
  pub moved : List (ℕ × ℤ)
  pub prices : List ℤ

-- the numbers of the arcs that are named, in order
abbrev pub arc_numbers : List (ℕ × ℤ) → List ℕ
arc_numbers moved = map (λ m. m.0) moved

-- the number of an arc, and a flow in range
abbrev pub IsMoved : ℕ × ℤ → Type 0
IsMoved m = IsArcInRange m.0 × IsAmount m.1

-- the numbers are in range, and those of the arcs strictly ascend
pub record IsSparseSolution (a : SparseSolution) : Type 0 where
  pub cost_small : IsAmount a.cost
  pub moved_fit : All IsMoved a.moved
  pub ascending : IsStrictlyIncreasing (arc_numbers a.moved)
  pub prices_small : All IsAmount a.prices
  pub few_prices : length a.prices ≤ node_limit
