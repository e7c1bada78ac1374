pub mod TestPaths
