pub mod Giving
pub mod Looking
