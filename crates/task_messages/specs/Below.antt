-- The libraries below that the line in crates.txt need not list: this crate and those above read them here.
pub use Rattle.task_texts as task_texts
pub use Rattle.task_texts.specs.Below.data_space as data_space
pub use Rattle.task_texts.specs.Below.live_task as live_task
pub use Rattle.task_texts.specs.Below.named_texts as named_texts
pub use Rattle.task_texts.specs.Below.page_pool as page_pool
pub use Rattle.task_texts.specs.Below.page_table as page_table
pub use Rattle.task_texts.specs.Below.place_gen as place_gen
pub use Rattle.task_texts.specs.Below.space_memory as space_memory
pub use Rattle.task_texts.specs.Below.system_meaning as system_meaning
pub use Rattle.task_texts.specs.Below.task_job as task_job
