pub mod Last
pub mod Methods
pub mod Typing
