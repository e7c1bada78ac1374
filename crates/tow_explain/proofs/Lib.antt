pub mod Behind
pub mod Cells
pub mod Neighbours
pub mod Rows
