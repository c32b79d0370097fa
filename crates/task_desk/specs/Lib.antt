pub mod Desks
pub mod Below
