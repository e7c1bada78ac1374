mod Giving
mod Collecting
