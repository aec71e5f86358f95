-- What the proofs of this crate alone need: no public clause names it.
pub mod Plans
pub mod Rows
