-- Definitions for the proofs of this crate alone: no public clause names them.
pub mod Closing
pub mod Narrow
pub mod Pairing
pub mod Shipping
