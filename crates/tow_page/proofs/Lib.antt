pub mod Askable
pub mod Looking
pub mod Segments
pub mod Sorting
pub mod Welcome
pub mod Writing
