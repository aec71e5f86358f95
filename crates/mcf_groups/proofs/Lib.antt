pub mod MovedSums
pub mod Splits
pub mod Stages
pub mod GroupPlans
pub mod Models
pub mod Cuts
pub mod Placing
pub mod Growing
pub mod ToldAnswers
pub mod Made
pub mod CutGroups
mod Listing
mod Orderings
mod Tallies
mod CutSums
mod MoreTold
mod BoundLists
