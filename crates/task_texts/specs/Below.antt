-- The libraries below that the line in crates.txt need not list: this crate and those above read them here.
pub use Rattle.live_task as live_task
pub use Rattle.named_texts as named_texts
pub use Rattle.page_pool as page_pool
pub use Rattle.named_texts.specs.Below.data_space as data_space
pub use Rattle.named_texts.specs.Below.page_table as page_table
pub use Rattle.named_texts.specs.Below.source_texts as source_texts
pub use Rattle.named_texts.specs.Below.space_memory as space_memory
pub use Rattle.named_texts.specs.Below.space_names as space_names
pub use Rattle.named_texts.specs.Below.task_numbers as task_numbers
pub use Rattle.named_texts.specs.Below.text_heap as text_heap
pub use Rattle.live_task.specs.Below.place_gen as place_gen
pub use Rattle.live_task.specs.Below.system_meaning as system_meaning
pub use Rattle.live_task.specs.Below.task_job as task_job
