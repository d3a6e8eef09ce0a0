pub mod PieceLemmas
pub mod ReadLemmas
pub mod TableLemmas
pub mod SourceLemmas
pub mod RootLemmas
pub mod PlainNames
pub mod PlacedItemLemmas
mod NamedLemmas
mod TableRows
mod PathsBack
pub mod StateLemmas
pub mod LawsProved
pub mod DigestLemmas
pub mod ToldLemmas
pub mod BagLemmas
pub mod FaultLemmas
pub mod PartLines
mod SendLemmas
pub mod PlacedBagLemmas
