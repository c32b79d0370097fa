-- The libraries below that the line in crates.txt need not list: this crate and those above read them here.
pub use Rattle.live_system as live_system
pub use Rattle.terminals as terminals
pub use Rattle.live_system.specs.Below.elan_names as elan_names
pub use Rattle.live_system.specs.Below.elan_scope as elan_scope
pub use Rattle.live_system.specs.Below.live_packets as live_packets
pub use Rattle.live_system.specs.Below.message_wait as message_wait
pub use Rattle.live_system.specs.Below.packet_store as packet_store
pub use Rattle.live_system.specs.Below.slicer as slicer
pub use Rattle.live_system.specs.Below.source_texts as source_texts
pub use Rattle.live_system.specs.Below.system_meaning as system_meaning
pub use Rattle.live_system.specs.Below.units as units
