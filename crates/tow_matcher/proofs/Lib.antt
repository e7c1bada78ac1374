pub mod Ends
pub mod Lowest
pub mod Ranks
pub mod Tables
