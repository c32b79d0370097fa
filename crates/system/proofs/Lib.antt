pub mod Paying
pub mod Commands
pub mod Slicing
pub mod Standing
mod Kept
mod Happening
mod Awaiting
mod Leading
mod Evaluating
mod Turning
mod Keeping
