pub mod EscapeLemmas
pub mod MarkupLemmas
pub mod NestedItems
pub mod NestedPages
mod HoldingLemmas
pub mod UseLemmas
mod ItemLemmas
pub mod Joins
mod DiskLemmas
pub mod Written
mod SamePages
