pub mod Scanning
pub mod Writing
pub mod Carried
