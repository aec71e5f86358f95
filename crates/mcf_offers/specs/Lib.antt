pub mod Offers
pub mod Private
