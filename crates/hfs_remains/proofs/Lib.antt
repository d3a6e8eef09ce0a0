pub mod FileLemmas
pub mod NodeLemmas
pub mod ChainLemmas
pub mod RangeLemmas
pub mod LeafLemmas
pub mod StepLemmas
pub mod ForkLemmas
pub mod RightLemmas
pub mod ItemLemmas
pub mod ByteLemmas
pub mod ReadLemmas
mod FewLemmas
pub mod CountLemmas
mod SumLemmas
pub mod WholeLemmas
pub mod OnwardLemmas
pub mod SoundLemmas
mod SoundItemLemmas
pub mod DirectoryLemmas
pub mod LawsProved
