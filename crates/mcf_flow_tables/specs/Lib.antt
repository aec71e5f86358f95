pub use Rattle.mcf_table.specs.Texts
pub use Rattle.mcf_table.specs.HeadRows
pub use Rattle.mcf_table.specs.NamedSeparators
pub use Rattle.mcf_table.specs.Separators
pub use Rattle.mcf_forms.specs.Matrices
pub use Rattle.mcf_forms.specs.Totals
pub use Rattle.mcf_reading.specs.Reading
pub use Rattle.mcf_units.specs.Answers
pub use Rattle.mcf_places.specs.Answers as PlannerAnswers
pub mod Lacking
pub mod Prepared
pub mod TableTexts
pub use Rattle.mcf_period_units.specs.Made
pub mod PlannerOrigins
pub mod PeriodTableAnswers
pub mod TableAnswers
