pub mod HeadLemmas
pub mod MarkLemmas
pub mod Ranges
pub mod StepLemmas
