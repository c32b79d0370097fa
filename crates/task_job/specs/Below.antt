-- The libraries below that the line in crates.txt need not list: this crate and those above read them here.
pub use Rattle.packet_store as packet_store
pub use Rattle.source_texts as source_texts
pub use Rattle.space_memory as space_memory
pub use Rattle.system_meaning as system_meaning
pub use Rattle.packet_store.specs.Below.code_gen as code_gen
pub use Rattle.packet_store.specs.Below.elan_check as elan_check
pub use Rattle.packet_store.specs.Below.place_gen as place_gen
pub use Rattle.packet_store.specs.Below.units as units
pub use Rattle.task_run.specs.Below.zero_machine as zero_machine
pub use Rattle.task_run.specs.Below.zero_state as zero_state
pub use Rattle.system_meaning.specs.Below.space_names as space_names
pub use Rattle.source_texts.specs.Below.data_space as data_space
pub use Rattle.source_texts.specs.Below.page_table as page_table
pub use Rattle.source_texts.specs.Below.text_heap as text_heap
pub use Rattle.code_form.specs.Below.cell_kinds as cell_kinds
