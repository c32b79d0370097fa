pub mod Counted
pub mod Stretch
pub mod Adds
pub mod Makes
pub mod Steps
pub mod Layouts
pub mod Correct
