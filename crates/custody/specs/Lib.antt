pub mod Custody
pub mod Routes
pub mod Offers
pub mod Kept
pub mod Instance
pub mod Refuted
