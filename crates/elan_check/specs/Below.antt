-- The libraries below that the line in crates.txt need not list: this crate and those above read them here.
pub use Rattle.cell_kinds as cell_kinds
pub use Rattle.elan_judge as elan_judge
pub use Rattle.elan_meant as elan_meant
pub use Rattle.elan_names as elan_names
pub use Rattle.elan_scope as elan_scope
pub use Rattle.elan_walk as elan_walk
pub use Rattle.type_names as type_names
pub use Rattle.elan_judge.specs.Below.call_graph as call_graph
pub use Rattle.elan_judge.specs.Below.elan_rules as elan_rules
pub use Rattle.elan_judge.specs.Below.value_rules as value_rules
