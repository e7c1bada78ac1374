pub mod Ask
pub mod Check
pub mod Codes
pub mod Lines
pub mod Returned
pub mod Steps
pub mod Texts
pub mod Usage
