pub mod Fronts
pub mod Marks
pub mod PlaceFronts
