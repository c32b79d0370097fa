-- The libraries below that the line in crates.txt need not list: this crate and those above read them here.
pub use Rattle.task_tidy.specs.Below.data_space as data_space
pub use Rattle.task_tidy.specs.Below.named_texts as named_texts
pub use Rattle.task_tidy.specs.Below.page_table as page_table
pub use Rattle.task_tidy.specs.Below.task_messages as task_messages
pub use Rattle.task_tidy.specs.Below.task_texts as task_texts
pub use Rattle.task_ends.specs.Below.code_gen as code_gen
pub use Rattle.task_ends.specs.Below.elan_check as elan_check
pub use Rattle.task_ends.specs.Below.live_task as live_task
pub use Rattle.task_ends.specs.Below.packet_store as packet_store
pub use Rattle.task_ends.specs.Below.source_texts as source_texts
pub use Rattle.task_ends.specs.Below.space_memory as space_memory
pub use Rattle.task_ends.specs.Below.system_meaning as system_meaning
pub use Rattle.task_ends.specs.Below.task_job as task_job
pub use Rattle.task_ends.specs.Below.units as units
