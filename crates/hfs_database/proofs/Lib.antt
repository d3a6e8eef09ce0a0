pub mod Keeping
pub mod TableLemmas
pub mod Ending
pub mod RowLemmas
pub mod FaultLemmas
pub mod RefusalLemmas
pub mod GivenLemmas
mod Fields
mod Names
mod Objects
mod Going
mod NestedLemmas
