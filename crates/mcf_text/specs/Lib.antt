pub mod Feed
pub mod Fields
pub mod Leading
pub mod Line
pub mod Lines
pub mod Pop
pub mod Row
pub mod Whole
