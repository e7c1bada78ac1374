pub mod Moves
pub mod Heads
pub mod Walks
pub mod Gathers
pub mod Answers
pub mod Closes
pub mod Ends
