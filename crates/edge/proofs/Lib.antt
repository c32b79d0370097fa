pub mod Changes
pub mod Composed
pub mod Counts
mod Given
mod Kept
mod Noted
mod Same
pub mod Steps
