pub mod Steps
pub mod Gives
pub mod Gathers
pub mod Walks
