pub mod Closed
pub mod Kept
pub mod Ends
pub mod Named
pub mod Numbered
pub mod Counted
