pub mod Digits
pub mod Examples
pub mod Founding
pub mod Lines
pub mod Printing
