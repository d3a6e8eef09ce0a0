mod Copies
mod PathTargets
mod Places
pub mod MadeFiles
mod Spared
pub mod Unread
