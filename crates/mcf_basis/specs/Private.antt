-- What the proofs of this crate alone need: no public clause names it.
pub mod Gaps
pub mod Layouts
pub mod Climbs
pub mod Turned
pub mod Columns
pub mod Offered
