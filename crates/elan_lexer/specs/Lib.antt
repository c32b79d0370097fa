pub mod Class
pub mod Tables
pub mod Pieces
pub mod Scan
pub mod Tokens
pub mod Kept
pub mod Law
