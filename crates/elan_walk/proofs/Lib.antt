pub mod Went
pub mod Seen
