-- The libraries below that the line in crates.txt need not list: this crate and those above read them here.
pub use Rattle.elan_names as elan_names
pub use Rattle.elan_scope as elan_scope
pub use Rattle.elan_types.specs.Below.cell_kinds as cell_kinds
