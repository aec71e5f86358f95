mod Grids
mod FlatPlans
mod MadeFlat
mod FlatAnswers
mod ProperPeriods
