-- What the proofs of this crate alone need: no public clause names it.
pub mod Counting
pub mod StoredAmounts
pub mod StoredLinks
pub mod Surpluses
pub mod Widths
