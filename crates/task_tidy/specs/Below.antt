-- The libraries below that the line in crates.txt need not list: this crate and those above read them here.
pub use Rattle.task_messages as task_messages
pub use Rattle.task_messages.specs.Below.data_space as data_space
pub use Rattle.task_messages.specs.Below.live_task as live_task
pub use Rattle.task_messages.specs.Below.named_texts as named_texts
pub use Rattle.task_messages.specs.Below.page_table as page_table
pub use Rattle.task_messages.specs.Below.place_gen as place_gen
pub use Rattle.task_messages.specs.Below.space_memory as space_memory
pub use Rattle.task_messages.specs.Below.system_meaning as system_meaning
pub use Rattle.task_messages.specs.Below.task_job as task_job
pub use Rattle.task_messages.specs.Below.task_texts as task_texts
pub use Rattle.zero_machine.specs.Below.zero_state as zero_state
