pub mod PlanSums
mod UnitCosts
mod Wider
mod Chains
mod FigureBounds
mod Told
mod LooseRoutes
mod Forests
mod LooseTests
mod StepCosts
mod Classes
mod NextUnits
mod DearerBounds
