pub mod Shape
pub mod walks
pub mod Level
pub mod Refinements
pub mod Below
