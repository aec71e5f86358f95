pub use Rattle.mcf_flows.specs.WellFormed
pub mod Columns
