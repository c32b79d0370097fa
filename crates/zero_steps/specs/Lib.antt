pub mod Giving
pub mod Reading
pub mod Received
pub mod Asking
pub mod Replying
