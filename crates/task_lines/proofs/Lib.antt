pub mod Kept
pub mod Taking
pub mod Running
pub mod Draining
pub mod Finishing
