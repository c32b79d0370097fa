-- The libraries below that the line in crates.txt need not list: this crate and those above read them here.
pub use Rattle.message_wait as message_wait
pub use Rattle.monitor as monitor
pub use Rattle.session_text as session_text
pub use Rattle.slicer as slicer
pub use Rattle.space_names as space_names
pub use Rattle.task_tree as task_tree
pub use Rattle.terminals as terminals
pub use Rattle.units as units
pub use Rattle.units.specs.Below.elan_names as elan_names
pub use Rattle.units.specs.Below.elan_scope as elan_scope
pub use Rattle.session_text.specs.Below.task_numbers as task_numbers
