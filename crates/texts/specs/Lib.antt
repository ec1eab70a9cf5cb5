pub mod Laws
pub mod Lines
