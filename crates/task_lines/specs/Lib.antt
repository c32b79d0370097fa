pub mod Forms
pub mod Queues
pub mod Below
