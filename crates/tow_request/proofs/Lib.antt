mod Deciding
pub mod Fronts
mod Lengths
mod Listing
mod Refusing
mod Spans
mod Summing
