pub mod PortSteps
pub mod WalkSteps
pub mod Answers
pub mod Takings
pub mod Puttings
