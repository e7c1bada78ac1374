pub mod Playing
pub mod Equations
pub mod Children
pub mod Servings
pub mod LogDates
mod ExchangeExamples
mod Rows
