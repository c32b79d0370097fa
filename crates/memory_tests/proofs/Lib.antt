pub mod Systems
mod TwoSpaces
mod Threes
mod Tasks
mod Settled
mod Homes
