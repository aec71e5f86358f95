pub mod BlockSizes
pub mod Choices
