pub mod Faults
pub mod Scan
