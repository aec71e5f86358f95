-- Prices that nearly show a flow, with all costs taken times a scale (Ahuja, Magnanti and Orlin,
-- Network Flows, section 10.3).
-- Source: AMO 10.3
use Rattle.std.specs.Prelude.{◌≡◌, ℕ, ◌+◌, ◌*◌, ◌^◌, ◌<◌, ◌≤◌, List, length, ℤ, pos, neg_ℤ, ◌+ℤ◌, ◌-ℤ◌, ◌*ℤ◌, ◌≤ℤ◌}
use Rattle.std.specs.List.{All}
use Rattle.mcf_flows.specs.Flow.{Shows}
use Rattle.mcf_flows.specs.Limits.{node_limit}
use Rattle.mcf_flows.specs.Network.{Network, at_node, node_count}
use Rattle.mcf_flows.specs.WellFormed.{IsUpTo}
use Rattle.mcf_network.specs.declared.rid.Rid.{Rid}
use Rattle.mcf_network.specs.Residual.{tail, head, unit_cost}
use Rattle.mcf_network.specs.States.{Pseudoflow, IsPseudoflow}
use Rattle.mcf_network.specs.Walks.{HasRoom}

-- the greatest absolute value of a price that nearly shows a flow
abbrev pub near_limit : ℕ
near_limit = 10 ^ 37

-- the cost of a residual arc times the scale, less the price of its tail plus that of its head
abbrev pub scaled_reduced : ℕ → Network → List ℤ → Rid → ℤ
scaled_reduced scale g prices r = unit_cost g r *ℤ pos scale -ℤ at_node prices (tail g r) +ℤ at_node prices (head g r)

-- a price for each node, within the limit; no residual arc with room has a reduced cost below minus
-- the slack, at costs times the scale, which is greater than the slack of a walk through all nodes,
-- and at most one more than a net can have nodes: the textbook's optimality within a slack
-- Source: AMO 10.3 (e-optimality); scale and slack own
pub record AreNearPrices (s : Pseudoflow) (scale slack : ℕ) (prices : List ℤ) : Type 0 where
  pub one_per_node : length prices ≡ node_count s.net
  pub small : All (IsUpTo near_limit) prices
  pub scale_small : scale ≤ node_limit + 1
  pub slack_small : slack * node_count s.net < scale
  pub near : (r : Rid) → HasRoom s r → neg_ℤ (pos slack) ≤ℤ scaled_reduced scale s.net prices r

-- prices that show a flow nearly show it, with scale 1 and slack 0
abbrev pub ShownPricesAreNear : Type 0
ShownPricesAreNear =
    (s : Pseudoflow) (prices : List ℤ) → IsPseudoflow s → length prices ≡ node_count s.net → All (IsUpTo near_limit) prices → Shows s.net.arcs prices s.amounts
    → AreNearPrices s 1 0 prices

-- a flow is 1-optimal by prices, at costs times one more than the number of nodes: they nearly show
-- it, with that scale and slack 1
abbrev pub OptimalPricesAreNear : Type 0
OptimalPricesAreNear =
    (s : Pseudoflow) (prices : List ℤ) → IsPseudoflow s → length prices ≡ node_count s.net → All (IsUpTo near_limit) prices
    → ((r : Rid) → HasRoom s r → neg_ℤ (pos 1) ≤ℤ scaled_reduced (node_count s.net + 1) s.net prices r) → AreNearPrices s (node_count s.net + 1) 1 prices
