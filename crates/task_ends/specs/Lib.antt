pub mod Refused
pub mod Below
