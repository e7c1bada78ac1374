pub mod Calls
pub mod Views
pub mod Rule
pub mod Shown
pub mod Tells
pub mod Closing
