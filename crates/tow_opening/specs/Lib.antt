pub mod Clocks
pub mod Heads
