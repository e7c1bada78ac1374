pub mod Holding
pub mod Opening
pub mod TestPaths
