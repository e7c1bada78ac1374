pub mod Deed
pub mod Legal
pub mod Histories
