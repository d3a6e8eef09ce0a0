pub mod FactLemmas
pub mod SameLemmas
pub mod BagLemmas
pub mod ListLemmas
mod ItemWayLemmas
mod RowWayLemmas
mod ForkTakenLemmas
mod SoundFoundLemmas
mod MemberLemmas
mod KindLemmas
mod TakenItemLemmas
mod TakenForkLemmas
mod PlannedItemLemmas
mod TakeGivenLemmas
mod RescueGivenLemmas
mod JoinLemmas
mod TakenPathLemmas
pub mod LawsProved
mod PlacedLemmas
pub mod ThereLemmas
mod BagSumLemmas
mod ShownLemmas
mod PagedLemmas
mod RemainsLemmas
mod LookedLemmas
mod RangeLemmas
mod UnreadLemmas
