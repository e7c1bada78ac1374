pub mod NextRequests
