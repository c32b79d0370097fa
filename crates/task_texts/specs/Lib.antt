pub mod Doings
pub mod Below
