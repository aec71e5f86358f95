pub mod FilledLemmas
pub mod Ranges
pub mod SumLemmas
