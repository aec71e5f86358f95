mod Convex
mod UnitLaws
pub mod Dearer
pub mod DearerModels
mod SideLaws
mod Making
mod UnitCosts
mod Calls
