-- The libraries below that the line in crates.txt need not list: this crate and those above read them here.
pub use Rattle.turn_laws.specs.Below.code_form as code_form
pub use Rattle.turn_laws.specs.Below.elan_scope as elan_scope
pub use Rattle.turn_laws.specs.Below.message_wait as message_wait
pub use Rattle.turn_laws.specs.Below.packet_store as packet_store
pub use Rattle.turn_laws.specs.Below.place_gen as place_gen
pub use Rattle.turn_laws.specs.Below.system_meaning as system_meaning
pub use Rattle.turn_laws.specs.Below.terminals as terminals
pub use Rattle.task_requests.specs.Below.live_packets as live_packets
pub use Rattle.task_requests.specs.Below.live_system as live_system
pub use Rattle.task_requests.specs.Below.live_task as live_task
pub use Rattle.task_requests.specs.Below.live_tasks as live_tasks
pub use Rattle.task_requests.specs.Below.task_desk as task_desk
pub use Rattle.task_requests.specs.Below.task_job as task_job
pub use Rattle.supervisor.specs.Below.task_tree as task_tree
