pub mod Calls
pub mod Counts
pub mod Data
pub mod Entries
pub mod Making
pub mod Runs
