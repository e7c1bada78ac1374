pub mod Stages
pub mod Links
pub mod Rooms
pub mod Verdicts
pub mod Further
pub mod Goings
pub mod Among
pub mod Rounds
