mod Formatted
pub mod Heads
mod OneBlock
mod Pages
mod Phases
mod Totals
