-- The libraries below that the line in crates.txt need not list: this crate and those above read them here.
pub use Rattle.space_memory.specs.Below.page_table as page_table
