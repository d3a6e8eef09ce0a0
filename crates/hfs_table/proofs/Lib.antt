pub mod Dates
mod Objects
mod OwnObjects
