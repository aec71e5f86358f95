pub use Rattle.mcf_network.specs.States
pub use Rattle.mcf_engine.specs.Outcomes
pub use Rattle.mcf_simplex.specs.Following
pub use Rattle.mcf_simplex.specs.Runs
pub mod Made
pub mod Private
