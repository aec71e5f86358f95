-- What a clause sees of a blocked answer.
-- Source: own
use Rattle.std.specs.Prelude.{ℕ, ◌≤◌, List, length, All}
use Rattle.std.specs.List.Sorted.{IsStrictlyIncreasing}
use Rattle.mcf_answer.specs.Ranges.{IsNodeInRange}
use Rattle.mcf_flows.specs.Limits.{node_limit}
use Rattle.mcf_flows.specs.declared.problem.Side.{Side}

-- a set of nodes, with the side by which it blocks
pub record BlockingSet : Type 0 where
  pub side : Side
  pub nodes : List ℕ

-- one node or more, strictly ascending, each in range
pub record IsBlockingSet (a : BlockingSet) : Type 0 where
  pub nonempty : 1 ≤ length a.nodes
  pub few : length a.nodes ≤ node_limit
  pub are_nodes : All IsNodeInRange a.nodes
  pub ascending : IsStrictlyIncreasing a.nodes
