pub mod Names
pub mod Reached
pub mod walks
pub mod Codes
pub mod Program
pub mod Correct
pub mod Below
