pub mod Fixpoints
pub mod Found
pub mod Slots
