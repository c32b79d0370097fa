pub mod Apart
pub mod Marks
pub mod Ranks
