pub mod Built
pub mod Compiled
pub mod Decided
pub mod Walking
