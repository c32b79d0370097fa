mod Ordered
mod Rows
