pub mod Shapes
pub mod Types
pub mod Nested
pub mod Sized
