pub mod Words
pub mod Form
pub mod Edits
pub mod Questions
pub mod Bytes
pub mod Founder
pub mod Owners
pub mod Asks
