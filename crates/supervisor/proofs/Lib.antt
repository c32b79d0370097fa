pub mod Beginning
pub mod Coupled
pub mod Halts
pub mod Kept
pub mod Telling
pub mod Worded
