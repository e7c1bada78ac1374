pub mod Leavings
pub mod Knowing
pub mod Heads
pub mod Walks
pub mod Gathers
pub mod Answers
pub mod Servings
pub mod Calls
pub mod Works
pub mod Completions
pub mod Closes
pub mod Ends
pub mod Moves
pub mod Breaks
pub mod Sound
mod Rounds
