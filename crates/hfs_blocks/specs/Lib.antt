pub mod Blocks
pub mod Layers
pub mod Places
pub mod Tables
