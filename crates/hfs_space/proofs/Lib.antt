pub mod Marks
pub mod Clears
pub mod Releases
pub mod PieceLemmas
pub mod ForkPieces
pub mod GoingOn
pub mod Decided
pub mod Agreed
pub mod OwnedOnce
pub mod OwnedWithin
pub mod TreeRuns
pub mod Rooms
pub mod EdgeCounts
pub mod SpaceWalk
pub mod RunSteps
pub mod ForkOrder
pub mod Copied
pub mod UsedMarks
pub mod ForkFaults
pub mod OwnedAll
pub mod BitmapLawLemmas
pub mod CountingLemmas
mod EdgeLemmas
pub mod FileLengthLemmas
mod FileListLemmas
pub mod ForkLawLemmas
pub mod ForkLengthLemmas
pub mod LookupLemmas
pub mod TreeFileLemmas
pub mod OwnerLemmas
pub mod LawsProved
pub mod LawTypes
mod SetBits
pub mod Claims
mod LowestRuns
pub mod OwnedLemmas
mod Counted
pub mod ClaimedMore
mod Running
mod Firsts
mod RowLemmas
mod Chosen
mod ByteLemmas
pub mod PartLemmas
mod PartSteps
pub mod Puts
mod JoinedLemmas
pub mod NumberLemmas
pub mod ForkLemmas
mod ZeroLemmas
mod ZeroSteps
pub mod CoverLemmas
pub mod FromLemmas
pub mod WholeLemmas
mod BlockSteps
pub mod RunLemmas
pub mod AllBlocks
pub mod Joined
pub mod Laid
