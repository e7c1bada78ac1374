pub mod HeadReaders
pub mod HeadProofs
pub mod FirstHeads
pub mod ContentLemmas
pub mod StreamLemmas
pub mod StreamExists
mod HeadExamples
mod ContentExamples
