pub mod Replying
pub mod Sizes
