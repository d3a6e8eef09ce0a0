pub mod Told
pub mod Brief
pub mod Queries
pub mod Rows
pub mod ToldRows
pub mod Infos
pub mod Levels
pub mod Laws
