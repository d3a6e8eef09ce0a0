mod PutSteps
mod Recounts
pub mod Openings
mod Pushed
mod LeafValences
pub mod Repairs
mod Repaired
pub mod Mendable
mod AllPlaced
pub mod PlacedInBlocks
