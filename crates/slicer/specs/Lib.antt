pub mod Rotation
