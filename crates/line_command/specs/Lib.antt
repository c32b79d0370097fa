pub mod Screen
pub mod Program
pub mod Meaning
pub mod Line
pub mod Streams
pub mod Status
pub mod Answer
pub mod Below
