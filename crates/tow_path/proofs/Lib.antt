pub mod Absolute
pub mod Cuts
pub mod Empty
pub mod Outputs
pub mod Pieces
pub mod Places
pub mod Prefixes
pub mod Templates
