pub mod Settle
pub mod Questions
