-- The libraries below that the line in crates.txt need not list: this crate and those above read them here.
pub use Rattle.session_text as session_text
pub use Rattle.slicer as slicer
pub use Rattle.system_meaning as system_meaning
pub use Rattle.task_tree as task_tree
pub use Rattle.terminals as terminals
pub use Rattle.system_meaning.specs.Below.elan_names as elan_names
pub use Rattle.system_meaning.specs.Below.elan_scope as elan_scope
pub use Rattle.system_meaning.specs.Below.units as units
