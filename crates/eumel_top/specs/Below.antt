-- The libraries below that the line in crates.txt need not list: this crate and those above read them here.
pub use Rattle.line_command.specs.Below.elan_scope as elan_scope
pub use Rattle.line_command.specs.Below.packet_store as packet_store
pub use Rattle.session_lines.specs.Below.task_numbers as task_numbers
pub use Rattle.system.specs.Below.system_meaning as system_meaning
