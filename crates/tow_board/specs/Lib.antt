pub mod Finds
pub mod Owners
pub mod Views
pub mod Rule
pub mod Steps
pub mod Answers
pub mod Idle
pub mod Points
