pub mod Seen
pub mod Numbers
pub mod Coming
pub mod Closing
