pub mod Readings
pub mod Moves
pub mod FixedReading
pub mod Places
pub mod ChunkedReading
