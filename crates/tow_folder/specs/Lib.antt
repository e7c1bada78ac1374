pub mod Folders
pub mod Memory
