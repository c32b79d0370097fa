pub mod Growing
pub mod Whole
pub mod Rows
pub mod Same
mod Added
mod Members
mod Sons
mod Descents
pub mod Ending
