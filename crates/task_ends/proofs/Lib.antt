pub mod Fronts
pub mod Pages
pub mod Settled
pub mod Heirs
