pub mod Cutting
pub mod Texts
pub mod Steps
pub mod Hex
pub mod ReadLemmas
pub mod PlaceLemmas
pub mod FileTests
