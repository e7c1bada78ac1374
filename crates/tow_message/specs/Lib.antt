pub mod Heads
pub mod FirstHead
pub mod Contents
pub mod Stream
