pub mod Types
pub mod Predefined
pub mod Names
pub mod Callees
pub mod Callables
pub mod Interfaces
pub mod walks
