mod SetLemmas
mod TwinLemmas
mod ItemLemmas
mod EntryOrder
mod ForkMaps
mod PartialBytes
mod WrittenPieces
mod MadeFiles
mod EndedForks
pub mod AcceptedCalls
mod CreatedFiles
mod EndOptions
mod WrittenForks
pub mod FewCalls
mod QuietCalls
mod ReadyFiles
mod PutFiles
mod NewItems
pub mod PutLists
pub mod LaidZeros
pub mod OwnForks
