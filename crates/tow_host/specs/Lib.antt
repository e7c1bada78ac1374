pub mod Held
pub mod Logs
pub mod Maps
pub mod Memory
pub mod Moments
pub mod Texts
