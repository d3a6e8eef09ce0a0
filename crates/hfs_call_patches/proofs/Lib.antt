pub mod Different
pub mod IndexNames
pub mod Placed
pub mod Closed
pub mod Opened
pub mod Made
pub mod PutItems
pub mod Creations
pub mod FileIdEdits
pub mod FileIdPatches
pub mod Rekeys
pub mod RenameMade
pub mod BothSet
pub mod MoveMade
pub mod FromFolder
pub mod FolderGone
pub mod EditedNodes
pub mod FileParts
pub mod FileGone
pub mod FileDeleted
pub mod ChosenFileLemmas
mod ChosenItems
pub mod CreationAnswerLemmas
mod DeletingLemmas
mod Files
mod TreeKeys
pub mod Overflows
pub mod Beside
mod BesideTrees
pub mod Rooms
pub mod SoundForks
mod Changed
mod Contents
mod Whole
pub mod Moves
mod Bytes
pub mod Laid
pub mod Edited
pub mod LawsProved
pub mod Choices
mod Apart
mod Bitmaps
mod SettledNodes
pub mod Ready
mod Assembled
mod Edits
mod ResizedFork
mod GrownFork
mod ShrunkFork
mod CallsMade
mod Wants
mod Pieces
mod LaidOver
mod WrittenBlocks
mod Coming
mod Told
