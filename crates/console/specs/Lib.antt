pub mod Arrivals
pub mod Turns
