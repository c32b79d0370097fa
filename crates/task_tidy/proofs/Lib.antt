pub mod Left
pub mod Named
pub mod Denoted
pub mod Keeping
