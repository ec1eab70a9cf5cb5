pub mod Line
pub mod Held
