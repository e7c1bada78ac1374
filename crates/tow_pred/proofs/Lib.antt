pub mod Among
pub mod Faulting
pub mod Longest
pub mod Memories
pub mod Parts
pub mod Plain
pub mod Reading
pub mod Trees
