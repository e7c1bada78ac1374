pub mod Answering
pub mod Giving
pub mod Places
pub mod Reading
