pub mod Meaning
pub mod Units
pub mod Readings
pub mod Below
pub use Rattle.units.specs.Library as Library
pub use Rattle.units.specs.Refusals as Refusals
