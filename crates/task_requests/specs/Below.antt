-- The libraries below that the line in crates.txt need not list: this crate and those above read them here.
pub use Rattle.live_system as live_system
pub use Rattle.live_system.specs.Below.live_packets as live_packets
pub use Rattle.live_system.specs.Below.live_task as live_task
pub use Rattle.live_system.specs.Below.live_tasks as live_tasks
pub use Rattle.live_system.specs.Below.message_wait as message_wait
pub use Rattle.live_system.specs.Below.slicer as slicer
pub use Rattle.live_system.specs.Below.system_meaning as system_meaning
pub use Rattle.live_system.specs.Below.task_desk as task_desk
pub use Rattle.live_system.specs.Below.task_job as task_job
pub use Rattle.live_system.specs.Below.task_tree as task_tree
pub use Rattle.live_system.specs.Below.terminals as terminals
pub use Rattle.live_system.specs.Below.units as units
