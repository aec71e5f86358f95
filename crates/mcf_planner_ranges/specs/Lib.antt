pub use Rattle.mcf_plan_ranges.specs.PlanRanges
pub use Rattle.mcf_places.specs.Answers
pub use Rattle.mcf_places.specs.LimitedPlanners
pub use Rattle.mcf_places.specs.Models
pub use Rattle.mcf_places.specs.PlannerLaws
pub mod PlannerRanges
