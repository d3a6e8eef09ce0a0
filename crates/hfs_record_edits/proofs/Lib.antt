mod Shrunk
pub mod FilesKeys
mod ReleasedMore
mod BothForks
pub mod Edits
pub mod FoundBodies
pub mod ThreadEdits
pub mod ItemSteps
pub mod BodyLemmas
pub mod EditedLemmas
pub mod FindLemmas
pub mod KeepLemmas
pub mod NamedLemmas
pub mod CatalogRoomLemmas
pub mod RootLemmas
pub mod SwapLemmas
pub mod Begun
pub mod RootPut
pub mod EdgeLemmas
pub mod SetEdge
pub mod LowerLeast
pub mod Needs
pub mod Adds
pub mod Shrinks
pub mod ForkRecords
pub mod BodyRowLemmas
pub mod CutLemmas
mod AddLemmas
pub mod RecordLemmas
pub mod TreeEdits
mod OwnRecords
mod ThreeLemmas
mod Chains
mod NeedOne
mod GrowLemmas
mod LastRecord
mod AddedRecords
mod WholeLemmas
mod ExtentsRoomLemmas
mod ShortLemmas
pub mod WantsProved
pub mod Items
pub mod FromLawful
pub mod Linked
pub mod Relinked
pub mod Maps
pub mod SetItems
pub mod Added
pub mod Dropped
pub mod Made
pub mod Space
pub mod ForkLemmas
pub mod NoForks
pub mod KeptSpace
pub mod Frames
pub mod CatalogEdits
pub mod Assembled
pub mod Stepped
pub mod Turned
pub mod TurnedForks
pub mod Rekeyed
pub mod SetMakes
pub mod CreateMakes
pub mod MovedItem
pub mod MadeThreads
pub mod LedThreads
pub mod SettingSteps
pub mod DirCreateMakes
pub mod RenameMakes
pub mod Chosen
pub mod Removal
pub mod DeleteMakes
pub mod Move
pub mod MoveMakes
pub mod FileIdMakes
pub mod CountBounds
pub mod NewItems
pub mod FreeKeys
pub mod Standing
pub mod DroppedForks
pub mod DroppedSpace
pub mod DeletedFrames
pub mod Deleted
pub mod DeletionMakes
pub mod Offspring
mod ChangeLemmas
mod LinkLemmas
mod OnBlockLemmas
pub mod OnceLemmas
mod StepLemmas
pub mod LawsProved
pub mod BoundLaws
pub mod ChangesLaws
pub mod CreationLaws
pub mod DeletionLaws
pub mod DropLaws
pub mod FileIdLaws
pub mod ItemLaws
pub mod LawTypes
pub mod MoveLaws
pub mod OffspringLaws
pub mod PlaceLaws
pub mod RemovalLaws
pub mod SettingLaws
pub mod StepsLaws
