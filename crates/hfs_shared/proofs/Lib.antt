pub mod Prefixes
pub mod Adding
pub mod Seeing
pub mod Growing
pub mod Following
pub mod BookLemmas
pub mod PublishedLawsProved
pub mod LawTypes
mod Entries
pub mod Headline
pub mod Showing
mod Stages
pub mod SharedLawsProved
pub mod Unplanned
pub mod Calling
pub mod Working
mod Begun
pub mod SendLemmas
