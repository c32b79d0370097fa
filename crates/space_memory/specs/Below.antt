-- The libraries below that the line in crates.txt need not list: this crate and those above read them here.
pub use Rattle.space_names as space_names
pub use Rattle.data_space.specs.Below.page_table as page_table
