pub mod WireLemmas
pub mod BlockLemmas
pub mod SortLemmas
mod WireExamples
