-- What the proofs of this crate alone need: no public clause names it.
pub mod Reaches
pub mod Labels
pub mod RowLists
pub mod Scenes
pub mod Searches
pub mod Rooms
pub mod Turning
pub mod Forests
pub mod Keeping
pub mod Updating
pub mod Cores
