-- The libraries below that the line in crates.txt need not list: this crate and those above read them here.
pub use Rattle.packet_store as packet_store
pub use Rattle.system_meaning as system_meaning
pub use Rattle.eu_base.specs.Below.task_numbers as task_numbers
pub use Rattle.system_meaning.specs.Below.elan_names as elan_names
pub use Rattle.system_meaning.specs.Below.message_wait as message_wait
pub use Rattle.system_meaning.specs.Below.monitor as monitor
pub use Rattle.system_meaning.specs.Below.session_text as session_text
pub use Rattle.system_meaning.specs.Below.slicer as slicer
pub use Rattle.system_meaning.specs.Below.task_tree as task_tree
pub use Rattle.system_meaning.specs.Below.terminals as terminals
pub use Rattle.system_meaning.specs.Below.units as units
pub use Rattle.packet_store.specs.Below.code_form as code_form
pub use Rattle.packet_store.specs.Below.elan_check as elan_check
pub use Rattle.packet_store.specs.Below.elan_scope as elan_scope
pub use Rattle.packet_store.specs.Below.place_gen as place_gen
