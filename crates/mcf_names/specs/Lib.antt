pub mod NameFaults
pub mod Names
pub mod Private
