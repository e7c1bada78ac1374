pub mod Lists
pub mod Texts
pub mod Fields
pub mod Paths
pub mod Dates
