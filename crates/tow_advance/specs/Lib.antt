pub mod Under
pub mod Needs
pub mod Moves
pub mod Knowing
