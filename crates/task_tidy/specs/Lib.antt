pub mod Tidied
pub mod Below
