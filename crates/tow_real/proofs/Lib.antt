pub mod Opening
pub mod TestPaths
