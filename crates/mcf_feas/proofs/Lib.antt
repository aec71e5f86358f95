pub mod Answered
pub mod Excess
pub mod Searches
pub mod Traces
