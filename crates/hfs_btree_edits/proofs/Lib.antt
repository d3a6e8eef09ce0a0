pub mod ApartLemmas
pub mod BehindLemmas
mod BitPutLemmas
pub mod BoundLemmas
mod ClaimedLemmas
mod ClaimLemmas
pub mod ConditionLemmas
pub mod DecodesLemmas
pub mod DistinctLemmas
pub mod EditedLemmas
pub mod EditedOrderLemmas
pub mod EditedPairLemmas
pub mod FreeAfterLemmas
pub mod FewRecords
mod FreedLemmas
mod FullByteLemmas
mod FullMapLemmas
pub mod HeadedLemmas
pub mod HeadLemmas
pub mod KeptLemmas
pub mod KeptKeyLemmas
pub mod LevelPartLemmas
mod MapBitLemmas
mod MapPlaceLemmas
mod MapWalkLemmas
pub mod OwnLemmas
mod PartBitLemmas
pub mod PlaceLemmas
pub mod ReheadedLemmas
pub mod ReleasedLemmas
mod RemarkedLemmas
pub mod ReplacedLemmas
mod ResoundedLemmas
pub mod StoredLemmas
pub mod StoreLemmas
mod TurnLemmas
pub mod UnchangedLemmas
pub mod WrittenLemmas
