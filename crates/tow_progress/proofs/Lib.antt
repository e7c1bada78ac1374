pub mod ContentEnds
pub mod Growing
pub mod Opens
pub mod Fronts
pub mod StepLemmas
pub mod WholeLemmas
pub mod MetLemmas
pub mod AccountLemmas
pub mod CutLemmas
pub mod InsideLemmas
mod ProgressExamples
mod ConnectionExample
