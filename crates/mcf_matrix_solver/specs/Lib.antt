pub use Rattle.mcf_matrix.specs.Costs
pub use Rattle.mcf_matrix.specs.Covers
pub use Rattle.mcf_matrix.specs.Cuts
pub use Rattle.mcf_matrix.specs.Matchings
pub use Rattle.mcf_matrix.specs.MatrixPrices
pub use Rattle.mcf_matrix.specs.Plans
pub use Rattle.mcf_matrix.specs.Tables
pub mod Answers
