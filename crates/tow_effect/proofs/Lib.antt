pub mod Going
pub mod Locations
