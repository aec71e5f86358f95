pub use Rattle.mcf_model.specs.Model
pub use Rattle.mcf_model.specs.Planning
pub use Rattle.mcf_solver.specs.Making
pub mod Wanting
