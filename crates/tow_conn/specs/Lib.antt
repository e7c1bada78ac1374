pub mod Inboxes
pub mod Conversations
pub mod Turns
