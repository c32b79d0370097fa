pub mod Blocks
pub mod Chains
pub mod Texts
pub mod Held
