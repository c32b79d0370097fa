pub mod Kinds
pub mod Planned
pub mod Assigned
pub mod Below
