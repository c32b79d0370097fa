pub mod Nodes
pub mod Operators
pub mod Walk
pub mod Definitions
pub mod walks
