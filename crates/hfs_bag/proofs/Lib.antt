pub mod Beginnings
pub mod FolderLemmas
mod NameLemmas
mod EntryLemmas
mod PlaceLemmas
mod Reached
pub mod RemovalLemmas
pub mod PlacingLemmas
pub mod ShelfPlaceLemmas
mod StoredLemmas
pub mod Moves
pub mod FileLemmas
pub mod Growing
pub mod GivingLemmas
pub mod ListingLemmas
pub mod TagLemmas
pub mod HalfLemmas
pub mod FaultLemmas
pub mod PathLemmas
pub mod ForkLemmas
mod Digests
pub mod FailLemmas
mod HeadLemmas
mod Alike
pub mod PartLemmas
pub mod Picking
pub mod FoundRanges
