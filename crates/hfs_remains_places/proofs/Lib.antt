mod SetLemmas
pub mod FolderLemmas
pub mod EntryLemmas
pub mod ChainLemmas
pub mod PathLemmas
pub mod NameLemmas
pub mod RowLemmas
pub mod LawLemmas
mod CaseLemmas
mod SlashLemmas
mod MarkLemmas
mod NamedLemmas
mod ApartLemmas
mod PlaceLemmas
mod BelowLemmas
mod FolderTextLemmas
pub mod RowPartLemmas
mod DownLemmas
mod DoubleLemmas
pub mod OverLemmas
pub mod ThingLemmas
mod Repeats
mod ReturnLemmas
mod WayLemmas
mod WayFolderLemmas
mod NameWayLemmas
pub mod LawsProved
mod WordLemmas
