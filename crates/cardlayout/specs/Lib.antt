pub mod Marks
pub mod Reach
pub mod Circle
pub mod Books
pub mod Sound
