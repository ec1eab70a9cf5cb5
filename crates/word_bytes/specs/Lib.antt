pub mod First
pub mod Carry
pub mod Counted
