pub mod Plans
pub mod Dispatched
pub mod Among
pub mod Adding
pub mod Nearing
pub mod Asked
pub mod Passing
