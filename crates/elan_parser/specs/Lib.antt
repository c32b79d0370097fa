pub mod Skips
pub use Rattle.elan_grammar.specs.Depth
pub use Rattle.elan_grammar.specs.Grammar
pub use Rattle.elan_grammar.specs.Place
pub use Rattle.elan_grammar.specs.Reads
pub use Rattle.elan_grammar.specs.Rule
pub mod Below
