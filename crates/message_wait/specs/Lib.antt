pub mod Rendezvous
pub mod Rows
