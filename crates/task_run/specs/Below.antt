-- The libraries below that the line in crates.txt need not list: this crate and those above read them here.
pub use Rattle.zero_machine as zero_machine
pub use Rattle.state_spelling.specs.Below.zero_state as zero_state
