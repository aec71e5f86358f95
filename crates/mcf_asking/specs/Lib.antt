pub use Rattle.mcf_choice.specs.BlockSizes
pub mod Asking
