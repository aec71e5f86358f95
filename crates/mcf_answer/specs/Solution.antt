-- What a clause sees of a flow answer.
-- Source: DIMACS, prices own
use Rattle.std.specs.Prelude.{◌≤◌, List, length, ℤ, All}
use Rattle.mcf_answer.specs.Ranges.{IsAmount, IsNodeInRange}
use Rattle.mcf_answer.specs.declared.answers.Sent.{Sent}
use Rattle.mcf_flows.specs.Limits.{node_limit}

-- a flow with its cost and prices: what each arc carries, in the order of the arcs, and the price
-- of each node from node 1 on
pub record Solution : Type 0 where
  pub cost : ℤ
  pub sent : List Sent
  pub prices : List ℤ

-- both ends are numbers of nodes, and the flow is in range
pub record IsSent (s : Sent) : Type 0 where
  pub src_is_node : IsNodeInRange s.src
  pub dst_is_node : IsNodeInRange s.dst
  pub flow_small : IsAmount s.flow

-- the numbers are in range
-- Source: own
pub record IsSolution (a : Solution) : Type 0 where
  pub cost_small : IsAmount a.cost
  pub sent_fit : All IsSent a.sent
  pub prices_small : All IsAmount a.prices
  pub few_prices : length a.prices ≤ node_limit
