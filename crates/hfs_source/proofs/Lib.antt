pub mod RangeLemmas
pub mod DataLemmas
pub mod Fetched
pub mod Seen
pub mod Copied
pub mod SparseLemmas
pub mod BlockBytes
pub mod PuttingIn
pub mod ReadingIn
pub mod Written
pub mod Fillings
pub mod Shorter
mod Entries
mod CandidateCounts
pub mod SumLemmas
mod RawLemmas
mod Handed
