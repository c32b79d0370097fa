pub mod PacketKinds
pub mod Owns
pub mod Installing
pub mod Ending
