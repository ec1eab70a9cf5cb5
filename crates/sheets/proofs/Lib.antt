pub mod Complete
pub mod Sound
pub mod Theorem
pub mod Examples
