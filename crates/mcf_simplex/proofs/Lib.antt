pub mod Ending
pub mod Firsts
pub mod Rounds
pub mod RunLaws
pub mod Running
pub mod Turns
pub mod Pieces
