mod Reading
mod Parts
pub mod Small
mod Texts
mod OneJournal
mod Learning
mod Late
mod Working
mod Counting
mod Whole
mod OneRun
mod KeptReplies
mod PieceLemmas
mod Reasons
pub mod ForkPlaces
pub mod FreeBlocks
pub mod MoreRead
pub mod SameNames
pub mod ForksOfLines
pub mod MadeFiles
pub mod MadeForks
pub mod KeptWorking
pub mod RunOver
pub mod Answered
pub mod OnImage
mod JournalLines
mod Digits
mod RunNeeded
