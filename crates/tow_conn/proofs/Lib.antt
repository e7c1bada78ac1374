pub mod Filling
pub mod Conversing
pub mod Replying
pub mod Turning
