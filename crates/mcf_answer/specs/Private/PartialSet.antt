-- A blocked answer of which some nodes may be missing.
use Rattle.std.specs.Prelude.{ℕ, ◌≤◌, List, length, All}
use Rattle.std.specs.List.Sorted.{IsStrictlyIncreasing}
use Rattle.mcf_answer.specs.Ranges.{IsNodeInRange}
use Rattle.mcf_flows.specs.declared.problem.Side.{Side}

-- the side, how many nodes there are, and the nodes so far
pub record PartialSet : Type 0 where
  pub side : Side
  pub count : ℕ
  pub nodes : List ℕ

-- no more nodes than there are, strictly ascending, each in range
pub record IsPartialSet (a : PartialSet) : Type 0 where
  pub some : IsNodeInRange a.count
  pub few : length a.nodes ≤ a.count
  pub are_nodes : All IsNodeInRange a.nodes
  pub ascending : IsStrictlyIncreasing a.nodes
