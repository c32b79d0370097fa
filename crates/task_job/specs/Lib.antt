pub mod Runs
pub mod Standing
pub mod Below
pub mod Here
