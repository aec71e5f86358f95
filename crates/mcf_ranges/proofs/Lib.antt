pub mod Costs
pub mod Pushes
pub mod RangeLaws
pub mod Searching
pub mod Tasks
