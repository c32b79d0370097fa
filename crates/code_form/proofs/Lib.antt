pub mod Resume
pub mod Steps
pub mod Spent
pub mod Frames
pub mod Safe
pub mod Plans
pub mod Places
