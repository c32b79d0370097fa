pub mod Served
pub mod Below
