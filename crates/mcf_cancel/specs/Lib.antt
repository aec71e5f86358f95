pub use Rattle.mcf_engine.specs.Heaps
pub use Rattle.mcf_engine.specs.Laws as EngineLaws
pub use Rattle.mcf_engine.specs.NearPrices
pub use Rattle.mcf_engine.specs.NegativeCycles
pub use Rattle.mcf_engine.specs.Outcomes
pub use Rattle.mcf_engine.specs.SmallPrices
pub use Rattle.mcf_network.specs.Chosen
pub use Rattle.mcf_flows.specs.Blocking
pub use Rattle.mcf_flows.specs.Flow
pub use Rattle.mcf_flows.specs.Network
pub use Rattle.mcf_network.specs.Nets
pub use Rattle.mcf_network.specs.NodeSets
pub use Rattle.mcf_network.specs.Residual
pub use Rattle.mcf_network.specs.States
pub use Rattle.mcf_network.specs.Walks
pub mod Laws
pub mod Recovering
pub mod Private
