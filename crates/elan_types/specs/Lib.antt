pub mod Typing
pub mod Types
pub mod Eval
pub mod Command
pub mod Nested
pub mod Below
