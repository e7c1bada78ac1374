pub mod Built
pub mod Faults
pub mod Found
pub mod Memory
pub mod Numbering
