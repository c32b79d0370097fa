pub mod Spaces
pub use Rattle.units.specs.Sources as Sources
pub mod Lines
pub mod View
pub mod Below
