pub mod Packets
pub mod Starts
pub mod Sound
pub mod Library
pub mod Reading
pub mod Refusals
pub mod Sources
pub mod Below
