pub mod Askable
pub mod Failing
pub mod Writing
