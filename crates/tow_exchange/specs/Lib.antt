pub mod Exchanges
pub mod Waiting
pub mod Listening
pub mod Lending
pub mod Completions
