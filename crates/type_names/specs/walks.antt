pub mod Seen
pub mod Judged
pub mod Further
pub mod LevelSeen
pub mod Uses
pub mod Headings
