pub mod MadeRosters
pub mod Groupings
