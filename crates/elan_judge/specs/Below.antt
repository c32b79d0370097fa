-- The libraries below that the line in crates.txt need not list: this crate and those above read them here.
pub use Rattle.call_graph as call_graph
pub use Rattle.elan_rules as elan_rules
pub use Rattle.elan_rules.specs.Below.elan_names as elan_names
pub use Rattle.elan_rules.specs.Below.value_rules as value_rules
pub use Rattle.elan_types.specs.Below.cell_kinds as cell_kinds
pub use Rattle.type_names.specs.Below.elan_walk as elan_walk
