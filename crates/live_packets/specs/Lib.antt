pub mod Packets
pub mod Below
