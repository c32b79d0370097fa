pub mod Slices
pub mod Systems
pub mod Leading
pub mod Keeping
pub mod Below
