pub mod Clockwise
pub mod Laws
pub mod Ranges
