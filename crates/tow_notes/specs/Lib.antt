pub mod Calls
pub mod Levels
pub mod Notes
pub mod Remarks
pub mod Stops
pub mod Values
