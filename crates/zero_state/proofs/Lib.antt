pub mod Stacks
pub mod Counts
pub mod Room
pub mod Emptied
pub mod Blocks
pub mod Making
