pub mod Over
pub mod Shown
