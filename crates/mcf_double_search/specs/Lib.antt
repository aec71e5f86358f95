pub use Rattle.mcf_matrix_doubles.specs.DoubleTables
