pub mod Program
pub mod Machine
pub mod Valid
pub mod Listing
pub mod Runs
pub mod Below
