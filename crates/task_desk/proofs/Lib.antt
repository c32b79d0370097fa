mod Living
mod Waiting
mod Coupling
mod Queues
pub mod Steps
