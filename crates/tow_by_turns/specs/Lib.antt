pub mod Hands
pub mod Conns
pub mod Needs
pub mod Turns
pub mod Begins
pub mod Limits
