pub mod Mended
pub mod Found
pub mod Working
pub mod Opened
pub mod Keeping
pub mod GivenBack
