pub mod Types
pub mod Faults
pub mod walks
pub mod Declarations
pub mod Bodies
pub mod Below
