pub mod Buckets
pub mod Digits
pub mod Marks
pub mod Homes
pub mod Preds
pub mod Content
pub mod Ready
