pub mod Judged
pub mod Nodeless
