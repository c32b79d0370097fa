pub mod Bracketed
pub mod OneForm
pub mod OneCommand
