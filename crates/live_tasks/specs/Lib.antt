pub mod Tasks
pub mod Handing
pub mod Below
