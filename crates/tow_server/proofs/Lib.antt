pub mod Completing
pub mod Joining
pub mod Keeping
pub mod Making
pub mod Naming
pub mod Wording
