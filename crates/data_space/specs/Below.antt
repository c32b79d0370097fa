-- The libraries below that the line in crates.txt need not list: this crate and those above read them here.
pub use Rattle.page_table as page_table
pub use Rattle.page_table.specs.Below.page_pool as page_pool
