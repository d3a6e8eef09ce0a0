pub mod Adds
pub mod Cells
pub mod Columns
pub mod Lines
pub mod OwnLines
