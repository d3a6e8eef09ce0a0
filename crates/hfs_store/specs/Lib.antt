pub mod Found
pub mod Placing
pub mod PlainVolume
pub mod Setting
