pub mod Sound
pub mod Tickets
pub mod Exchanges
pub mod Counting
mod Samples
