pub mod Ways
pub mod Removal
