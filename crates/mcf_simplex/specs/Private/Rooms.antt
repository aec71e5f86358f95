-- The room that a run ends with.
use Rattle.std.specs.Prelude.{◌≡◌, ℕ}
use Rattle.mcf_flows.specs.Network.{Network, node_count}

-- a state of the net, and a set, a raiser of prices and prices for its nodes
pub record HasRoomFor (g of_state : Network) (cut_size pricer_size price_count : ℕ) : Type 0 where
  pub state : of_state ≡ g
  pub cut : cut_size ≡ node_count g
  pub pricer : pricer_size ≡ node_count g
  pub prices : price_count ≡ node_count g
