mod Found
pub mod Plans
mod Copying
mod Counts
mod Binding
