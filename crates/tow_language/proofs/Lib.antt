pub mod Cut
pub mod Folds
pub mod Kept
pub mod Names
pub mod Syntactic
pub mod Unique
mod LanguageExamples
