pub mod Lines
pub mod Pieces
pub mod Display
pub mod Below
