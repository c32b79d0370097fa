pub mod walks
pub mod Text
pub mod Packets
pub mod Below
