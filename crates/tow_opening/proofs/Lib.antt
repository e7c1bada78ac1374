pub mod Moments
pub mod Views
pub mod Begins
pub mod Refusals
