pub use Rattle.mcf_answer_rows.specs.AnswerRows
pub use Rattle.mcf_answer_rows.specs.FaultWords
pub use Rattle.mcf_answer_rows.specs.Lines
pub use Rattle.mcf_plan_figures.specs.Told
pub mod BottleneckRows
pub mod Cells
pub mod FaultRows
pub mod PlanRows
