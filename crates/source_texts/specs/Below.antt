-- The libraries below that the line in crates.txt need not list: this crate and those above read them here.
pub use Rattle.data_space as data_space
pub use Rattle.text_heap as text_heap
pub use Rattle.data_space.specs.Below.page_table as page_table
