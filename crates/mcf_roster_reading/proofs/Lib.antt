pub mod MarkLemmas
pub mod Ranges
