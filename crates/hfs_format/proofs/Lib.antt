pub mod Laid
pub mod FirstBits
pub mod Rounding
pub mod MapNodes
pub mod BlockLemmas
pub mod NodesRead
pub mod BitsRead
pub mod NewVolumeLemmas
pub mod NewBlocks
pub mod HeaderRead
pub mod SmallTrees
pub mod NewFiles
pub mod NewCatalog
pub mod NewSpace
pub mod PlanFacts
pub mod NewImageLemmas
pub mod Ranges
mod BitRowLemmas
mod NodeNumbers
pub mod PlanNumbers
pub mod SizeLemmas
pub mod CatalogLemmas
pub mod PlanLemmas
pub mod NameLemmas
pub mod ReadLemmas
pub mod TypedLemmas
