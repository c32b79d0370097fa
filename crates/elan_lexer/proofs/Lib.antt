pub mod Turns
pub mod Runs
pub mod Longest
pub mod Local
pub mod Entries
pub mod Forms
pub mod Cuts
pub mod Laws
