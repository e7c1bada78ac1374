pub mod Pieces
pub mod Places
pub mod Parts
pub mod Bodies
pub mod Readings
