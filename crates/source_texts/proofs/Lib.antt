pub mod Shapes
pub mod Cells
pub mod Typed
pub mod Reading
pub mod Pooled
