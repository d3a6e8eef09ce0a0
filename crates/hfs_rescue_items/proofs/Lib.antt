pub mod AboveLemmas
mod PieceLemmas
mod ReadLemmas
pub mod ForkLemmas
mod HoldLemmas
pub mod LastLemmas
pub mod LawTypes
pub mod LawsProved
pub mod LineLemmas
pub mod PartLemmas
pub mod PlacedLemmas
pub mod PlanLemmas
pub mod SourceLemmas
pub mod SumLemmas
pub mod ToldLemmas
mod RootLemmas
mod PlanSumLemmas
mod PayloadLemmas
pub mod WritingLemmas
pub mod GatherLemmas
mod WrittenForkLemmas
mod FirstLemmas
pub mod ReachLemmas
