pub use Rattle.mcf_network.specs.States
pub use Rattle.mcf_engine.specs.Outcomes
pub use Rattle.mcf_fast.specs.Made as FastMade
pub mod Made
pub mod Private
