pub mod Kinds
pub mod Runs
pub mod Nexts
pub mod Onward
pub mod Judged
pub mod Put
pub mod Carried
pub mod Filled
