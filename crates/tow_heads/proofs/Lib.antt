mod Fronts
pub mod Served
mod Going
