pub mod Chains
pub mod walks
