pub mod Widening
pub mod Growing
pub mod Coursing
pub mod Breaking
