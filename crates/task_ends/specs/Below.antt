-- The libraries below that the line in crates.txt need not list: this crate and those above read them here.
pub use Rattle.live_task as live_task
pub use Rattle.zero_machine.specs.Below.cell_kinds as cell_kinds
pub use Rattle.live_task.specs.Below.code_gen as code_gen
pub use Rattle.live_task.specs.Below.elan_check as elan_check
pub use Rattle.live_task.specs.Below.packet_store as packet_store
pub use Rattle.live_task.specs.Below.page_table as page_table
pub use Rattle.live_task.specs.Below.place_gen as place_gen
pub use Rattle.live_task.specs.Below.source_texts as source_texts
pub use Rattle.live_task.specs.Below.space_memory as space_memory
pub use Rattle.live_task.specs.Below.system_meaning as system_meaning
pub use Rattle.live_task.specs.Below.task_job as task_job
pub use Rattle.live_task.specs.Below.text_heap as text_heap
pub use Rattle.live_task.specs.Below.units as units
