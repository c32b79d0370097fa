pub mod Scope
pub mod Shown
pub mod Phrase
pub mod Ruled
pub mod Known
pub mod Answer
pub mod walks
pub mod Below
