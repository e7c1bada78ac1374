pub mod Lines
pub mod NextHead
pub mod Refusals
