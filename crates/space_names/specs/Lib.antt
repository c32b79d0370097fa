pub mod Directory
pub mod Entries
