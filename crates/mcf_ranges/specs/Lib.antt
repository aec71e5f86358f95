pub use Rattle.mcf_flows.specs.Flow
pub use Rattle.mcf_flows.specs.Network
pub use Rattle.mcf_flows.specs.WellFormed
pub use Rattle.mcf_network.specs.Residual
pub use Rattle.mcf_engine.specs.SmallPrices
pub mod Ranges
pub mod Private
