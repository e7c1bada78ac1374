pub mod Folders
pub mod Walks
pub mod Staying
pub mod Sendable
