pub mod OverPeriods
