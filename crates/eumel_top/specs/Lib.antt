pub mod Causes
pub mod Output
pub mod Serving
pub mod SessionPlay
pub mod Midway
pub mod Words
pub mod Play
pub mod Below
