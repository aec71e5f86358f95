mod Labels
mod TreePrices
mod Gaps
mod GapTables
mod Spreads
mod Offers
mod Views
mod LeastOffers
mod MostViolated
pub mod RankLaws
pub mod LastBases
pub mod TreeFlows
pub mod RankDepths
mod StarBases
mod Pushes
mod StrongPivot
mod Around
mod Climbing
mod Climbed
mod TurnedResiduals
mod Endings
mod CyclePlaces
mod StrongKept
mod Pushed
mod PricesTurned
mod PivotKeeps
mod Pivoted
mod TurnedAmounts
mod TurnedStart
mod TurnedLayout
mod Cuts
