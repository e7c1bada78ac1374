pub mod Below
pub mod Children
pub mod Lengths
pub mod Maps
pub mod Placing
pub mod TestPaths
