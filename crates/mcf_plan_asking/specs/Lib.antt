pub use Rattle.mcf_asking.specs.Asking
pub mod PlanAsking
