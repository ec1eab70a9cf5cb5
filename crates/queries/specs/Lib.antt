pub mod Rolls
pub mod Questions
