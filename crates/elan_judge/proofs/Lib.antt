pub mod InScope
mod Asked
pub mod TypedRules
pub mod Rows
pub mod Shapes
pub mod Inferred
pub mod Settled
pub mod Lasts
pub mod Same
pub mod Opened
pub mod Calls
pub mod Counts
pub mod Steps
pub mod Alike
pub mod Places
pub mod OnTheWay
pub mod Settling
