pub use Rattle.mcf_figures.specs.Figures
pub use Rattle.mcf_model.specs.Model
pub use Rattle.mcf_model.specs.Prices
pub use Rattle.mcf_model.specs.Tables
pub use Rattle.mcf_ranges.specs.Ranges
pub mod Changes
pub mod PlanRanges
pub mod Private
