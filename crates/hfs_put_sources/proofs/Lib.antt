mod DaysCounted
mod MomentsRead
mod Clean
mod Parted
mod RowsRead
mod LinesRead
mod DigestLines
mod TagsRead
mod EntryOrder
pub mod WalkLemmas
pub mod SourceLemmas
pub mod LaterLemmas
pub mod LineLemmas
pub mod PathLaws
pub mod PathLemmas
pub mod RecordLemmas
pub mod WrongLemmas
pub mod SourceFaults
mod FileReads
