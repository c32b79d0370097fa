-- The libraries below that the line in crates.txt need not list: this crate and those above read them here.
pub use Rattle.data_space as data_space
pub use Rattle.source_texts as source_texts
pub use Rattle.space_memory as space_memory
pub use Rattle.task_numbers as task_numbers
pub use Rattle.source_texts.specs.Below.text_heap as text_heap
pub use Rattle.space_memory.specs.Below.space_names as space_names
pub use Rattle.data_space.specs.Below.page_table as page_table
