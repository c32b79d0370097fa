-- The libraries below that the line in crates.txt need not list: this crate and those above read them here.
pub use Rattle.elan_names as elan_names
pub use Rattle.value_rules as value_rules
