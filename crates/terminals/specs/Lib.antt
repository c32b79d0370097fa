pub mod Channels
pub mod Couplings
pub mod Rows
