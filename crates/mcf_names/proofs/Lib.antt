pub mod DistinctLemmas
pub mod IndexLemmas
pub mod OrderLemmas
