pub mod Sources
pub mod Gatherings
