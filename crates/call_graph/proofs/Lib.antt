pub mod Turns
pub mod Unreached
pub mod Ranked
pub mod Chains
pub mod Walks
