pub mod Numbers
pub mod Directory
