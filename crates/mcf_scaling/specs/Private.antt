-- What the proofs of this crate alone need: no public clause names it.
pub mod CurrentArcs
pub mod Leasts
pub mod Queues
pub mod Stars
