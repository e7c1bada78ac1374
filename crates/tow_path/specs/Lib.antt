pub mod Output
pub mod Parts
pub mod Scheme
pub mod Told
