-- What the proofs of this crate alone need: no public clause names it.
pub mod ArrayStates
pub mod LineReader
pub mod PlainLines
pub mod ReaderSound
pub mod ReaderState
pub mod TakenArcs
