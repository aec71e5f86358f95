pub mod RangeSums
pub mod PairSums
pub mod Balances
pub mod Exchange
mod SetSums
pub mod Contests
mod ProperRosters
pub mod ProperModels
pub mod RowSteps
mod OriginLists
pub mod ToldAnswers
pub mod ToldSums
