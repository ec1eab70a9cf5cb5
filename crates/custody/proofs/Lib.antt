pub mod Offers
pub mod Prices
pub mod Theorem
pub mod Instance
