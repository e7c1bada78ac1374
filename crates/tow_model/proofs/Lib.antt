pub mod DateProofs
pub mod Resolving
pub mod Spans
