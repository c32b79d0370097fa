pub mod Marks
pub mod Found
