-- What is known of a flow whose ranges are looked for.
use Rattle.std.specs.Prelude.{◌≡◌, List, length, ℤ}
use Rattle.std.specs.List.{All}
use Rattle.mcf_flows.specs.Flow.{IsFeasible, Shows}
use Rattle.mcf_flows.specs.Limits.{limits}
use Rattle.mcf_flows.specs.Network.{Network, IsNode, node_count}
use Rattle.mcf_flows.specs.WellFormed.{IsUpTo, IsWellFormed}
use Rattle.mcf_network.specs.Removal.{net_of}
use Rattle.mcf_engine.specs.SmallPrices.{price_limit}
use Rattle.mcf_ranges.specs.Private.Searches.{Task}

-- a network with a flow and prices
pub record ShownFlow : Type 0 where
  pub network : Network
  pub flow : List ℤ
  pub prices : List ℤ

-- the network is an instance, the flow is feasible, and the prices are small and show it
pub record IsShown (s : ShownFlow) : Type 0 where
  pub well_formed : IsWellFormed limits s.network
  pub feasible : IsFeasible s.network s.flow
  pub shows : Shows s.network.arcs s.prices s.flow
  pub one_per_node : length s.prices ≡ node_count s.network
  pub small : All (IsUpTo price_limit) s.prices

-- and the net is that of the network
pub record IsShownWith (net : Network) (s : ShownFlow) : Type 0 where
  pub shown : IsShown s
  pub net_is : net ≡ net_of s.network

-- the flow of a task
abbrev pub flow_of : Task → ShownFlow
flow_of t = record { network = t.network; flow = t.flow; prices = t.prices }

-- both ends of the task are nodes
pub record HasEndNodes (t : Task) : Type 0 where
  pub from_is_node : IsNode (node_count t.network) t.u
  pub to_is_node : IsNode (node_count t.network) t.w
