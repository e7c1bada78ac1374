pub mod Folders
pub mod Finding
pub mod Steps
pub mod Staying
pub mod Choosing
pub mod Sendable
