-- What the proofs of this crate alone need: no public clause names it.
pub mod Draft
pub mod PartialSet
pub mod Puts
