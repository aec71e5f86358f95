pub use Rattle.mcf_decimal.specs.Marks
pub use Rattle.mcf_decimal.specs.Written as DecimalTexts
pub use Rattle.mcf_reading.specs.Cells
pub use Rattle.mcf_reading.specs.Columns
pub use Rattle.mcf_table.specs.Heads
pub use Rattle.mcf_table.specs.Texts
pub use Rattle.mcf_table.specs.Written
pub mod AnswerRows
pub mod FaultWords
pub mod FormRows
pub mod Lines
pub mod TableRows
