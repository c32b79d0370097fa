pub mod Machines
pub mod What
pub mod Finishing
pub mod Texts
pub mod Steps
pub mod Below
