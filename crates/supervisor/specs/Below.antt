-- The libraries below that the line in crates.txt need not list: this crate and those above read them here.
pub use Rattle.task_tree as task_tree
pub use Rattle.task_lines.specs.Below.elan_scope as elan_scope
pub use Rattle.task_lines.specs.Below.live_system as live_system
pub use Rattle.task_lines.specs.Below.message_wait as message_wait
pub use Rattle.task_lines.specs.Below.packet_store as packet_store
pub use Rattle.task_lines.specs.Below.slicer as slicer
pub use Rattle.task_lines.specs.Below.system_meaning as system_meaning
pub use Rattle.task_lines.specs.Below.terminals as terminals
