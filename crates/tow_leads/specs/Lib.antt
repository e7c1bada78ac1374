pub mod Ports
pub mod Walked
pub mod Replied
pub mod Taken
pub mod Sent
