mod Ways
pub mod Lists
mod Routes
mod Plans
mod Cuts
mod Raised
mod Unlimited
mod Narrow
mod Finer
mod Exact
mod PricedPlans
mod Filling
mod Reading
mod RowSteps
mod Reaches
pub mod FaultLists
pub mod FaultTests
pub mod Proper
mod Capped
pub mod Planners
pub mod RoomSums
