mod CodeLemmas
pub mod SumLemmas
pub mod CountLemmas
mod OwnerLemmas
mod BlockLemmas
mod ShareLemmas
pub mod ForkByteLemmas
mod NamingLemmas
mod SameLemmas
mod FrontLemmas
mod WholeForkLemmas
mod TakenLemmas
mod SoundThingLemmas
mod SoundWayLemmas
mod ReadThingLemmas
mod SoundPathLemmas
pub mod RemainsLawsProved
pub mod ImageLemmas
mod SameFiles
pub mod SameFinds
mod GatherLemmas
mod FoundLemmas
pub mod FindsLawsProved
pub mod LookLemmas
mod VolumeLemmas
