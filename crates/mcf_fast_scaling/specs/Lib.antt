pub use Rattle.mcf_network.specs.States
pub use Rattle.mcf_engine.specs.Outcomes
