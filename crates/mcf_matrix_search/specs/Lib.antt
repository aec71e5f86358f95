pub use Rattle.mcf_matrix.specs.Tables
