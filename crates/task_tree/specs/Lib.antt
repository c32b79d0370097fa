pub mod Tree
pub mod Trees
pub mod Whole
pub mod Rows
pub mod Families
pub mod Ends
