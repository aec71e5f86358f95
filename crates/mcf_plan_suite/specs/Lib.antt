pub use Rattle.mcf_pair_text.specs.PairTexts
pub use Rattle.mcf_plan_asking.specs.PlanAsking
pub use Rattle.mcf_plan_text.specs.PlanTexts
pub use Rattle.mcf_range_text.specs.RangeTexts
pub use Rattle.mcf_solver.specs.Devices
pub mod PlanServing
