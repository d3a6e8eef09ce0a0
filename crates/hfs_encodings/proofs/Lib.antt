pub mod Table
pub mod WrittenAppleDouble
pub mod WrittenMacBinary
mod AppleDoubleLemmas
mod Letters
mod Given
mod HostNamesRead
mod PlainTextRead
mod MacBinaryRead
pub mod Entries
pub mod AppleDoubleRead
