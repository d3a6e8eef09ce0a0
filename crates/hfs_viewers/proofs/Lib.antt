pub mod PieceLemmas
pub mod Placed
pub mod EditedPieces
mod Read
pub mod Members
pub mod Named
pub mod Cut
pub mod LookedUp
pub mod EditedRows
pub mod Left
pub mod Counted
pub mod Added
pub mod Created
pub mod Moved
pub mod Gone
pub mod Above
mod NameLemmas
pub mod PlaceLemmas
pub mod ShownLemmas
mod Copied
mod ForkLemmas
mod ForkReads
pub mod Opened
pub mod Made
mod OpenedLemmas
mod Packed
mod ChangedLemmas
mod PieceReads
mod ForkRows
mod Opens
