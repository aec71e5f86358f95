pub mod BitRows
pub mod Covering
pub mod Judging
pub mod Order
pub mod Powers
pub mod Rounding
pub mod RoundingGaps
pub mod Spans
