pub mod Beside
pub mod Told
pub mod Halves
mod Pairs
pub mod Chosen
