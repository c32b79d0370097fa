pub mod Coupling
mod Rows
