pub use Rattle.mcf_answer.specs.Spelling
pub use Rattle.mcf_answer.specs.Written
pub use Rattle.mcf_assign.specs.Runs as MatchingRuns
pub use Rattle.mcf_checker.specs.Correct
pub use Rattle.mcf_checker.specs.Judging
pub use Rattle.mcf_choice.specs.BlockSizes
pub use Rattle.mcf_choice.specs.Choices
pub use Rattle.mcf_fast.specs.Made as FastMade
pub use Rattle.mcf_network.specs.Chosen
pub use Rattle.mcf_instance.specs.Memory
pub use Rattle.mcf_flows.specs.Flow
pub use Rattle.mcf_flows.specs.Limits
pub use Rattle.mcf_instance.specs.Reading
pub use Rattle.mcf_network.specs.Removal
pub use Rattle.mcf_network.specs.Restoring
pub use Rattle.mcf_network.specs.States
pub use Rattle.mcf_network.specs.TreeSolutions
pub use Rattle.mcf_engine.specs.Outcomes
pub use Rattle.mcf_scaling.specs.Made
pub use Rattle.mcf_simplex.specs.Blocks as BlockPicks
pub use Rattle.mcf_simplex.specs.Following
pub use Rattle.mcf_simplex.specs.Picking
pub use Rattle.mcf_simplex.specs.Runs as SimplexRuns
pub use Rattle.mcf_simplex.specs.Stretches
pub mod Answering
pub mod ChosenSolutions
pub mod Devices
pub mod Forms
pub mod Making
pub mod Running
pub mod Private
