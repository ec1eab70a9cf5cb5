pub mod Moves
pub mod Follow
pub mod Movers
pub mod Asked
pub mod New
