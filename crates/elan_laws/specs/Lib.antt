pub mod Places
pub mod Order
pub mod Settled
pub mod Served
pub mod Below
