-- What the proofs of this crate alone need: no public clause names it.
pub mod Loops
pub mod Pieces
pub mod Rooms
