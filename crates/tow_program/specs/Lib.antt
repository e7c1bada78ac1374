pub mod Actions
pub mod Programs
pub mod Runs
pub mod Skips
pub mod Tables
pub mod Laws
