pub mod Stacked
pub mod Finds
pub mod Stepping
pub mod Emptied
pub mod Below
