-- The libraries below that the line in crates.txt need not list: this crate and those above read them here.
pub use Rattle.task_job as task_job
pub use Rattle.task_job.specs.Below.code_gen as code_gen
pub use Rattle.task_job.specs.Below.elan_check as elan_check
pub use Rattle.task_job.specs.Below.packet_store as packet_store
pub use Rattle.task_job.specs.Below.page_table as page_table
pub use Rattle.task_job.specs.Below.place_gen as place_gen
pub use Rattle.task_job.specs.Below.source_texts as source_texts
pub use Rattle.task_job.specs.Below.space_memory as space_memory
pub use Rattle.task_job.specs.Below.space_names as space_names
pub use Rattle.task_job.specs.Below.system_meaning as system_meaning
pub use Rattle.task_job.specs.Below.text_heap as text_heap
pub use Rattle.task_job.specs.Below.units as units
pub use Rattle.code_form.specs.Below.cell_kinds as cell_kinds
