pub mod Course
pub mod Breaks
pub mod Growing
