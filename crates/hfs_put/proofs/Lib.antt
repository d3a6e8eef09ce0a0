mod CallOutcomes
mod CallRows
mod NamedIds
mod FolderRows
mod PlacedItems
mod LaidLists
mod Absences
mod PlacedLists
mod LockCodes
mod FittingForks
pub mod ForkRunLists
pub mod RunsApart
pub mod RunMembers
mod Results
mod AlikeLists
mod AlikeForks
mod PutAlike
pub mod Located
mod FileBlocks
mod MappedItems
mod SameOwn
mod LaidForkLemmas
mod Differences
pub mod CameForks
pub mod SavedPuts
mod Filled
mod LaidAt
mod RunBlocks
mod FilesAt
mod LaidFiles
mod BesideRuns
mod SavedRuns
mod PutOver
mod WrittenBlocks
mod UnchangedFiles
pub mod LaidLemmas
mod FilledLemmas
mod OrderLemmas
mod PieceLemmas
mod FailureLemmas
pub mod ImageLemmas
mod ComingForks
mod ComingPlaces
mod InImages
pub mod WholeFiles
