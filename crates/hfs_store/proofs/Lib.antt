pub mod Scans
pub mod ById
pub mod Sorted
pub mod Kept
pub mod Outcomes
pub mod Runs
pub mod Laid
pub mod ForkOutcomes
