mod Pieces
mod DeparturesMade
mod Timed
mod MadePeriods
