mod Stems
pub mod Days
pub mod DayLaw
mod Codes
pub mod FrontLemmas
pub mod HostNameLemmas
pub mod HostPathLemmas
mod PlainLemmas
mod HexLemmas
mod AsciiLemmas
pub mod Printed
pub mod LawsProved
