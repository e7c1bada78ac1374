pub mod Calls
pub mod Faults
pub mod Fitting
pub mod Making
