-- What the proofs of this crate alone need: no public clause names it.
pub mod Labels
pub mod Queues
pub mod Rounds
pub mod Trails
