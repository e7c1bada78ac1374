pub mod Borders
pub mod Firsts
pub mod Keys
