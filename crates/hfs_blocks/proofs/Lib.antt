pub mod LaidLemmas
mod FileRuns
pub mod LayerLemmas
mod PlaceLemmas
mod TableLemmas
