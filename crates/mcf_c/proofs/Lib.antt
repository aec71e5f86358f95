pub mod Fits
pub mod Judges
pub mod Marks
pub mod MadeOfArrays
pub mod Stored
mod RangeLists
