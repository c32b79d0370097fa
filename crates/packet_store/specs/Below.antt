-- The libraries below that the line in crates.txt need not list: this crate and those above read them here.
pub use Rattle.code_gen as code_gen
pub use Rattle.elan_check as elan_check
pub use Rattle.elan_scope as elan_scope
pub use Rattle.units as units
pub use Rattle.units.specs.Below.elan_names as elan_names
pub use Rattle.code_gen.specs.Below.code_form as code_form
pub use Rattle.code_gen.specs.Below.place_gen as place_gen
pub use Rattle.elan_check.specs.Below.cell_kinds as cell_kinds
pub use Rattle.elan_check.specs.Below.elan_judge as elan_judge
pub use Rattle.elan_check.specs.Below.elan_meant as elan_meant
pub use Rattle.elan_check.specs.Below.elan_rules as elan_rules
pub use Rattle.elan_check.specs.Below.type_names as type_names
pub use Rattle.elan_parser.specs.Below.elan_grammar as elan_grammar
