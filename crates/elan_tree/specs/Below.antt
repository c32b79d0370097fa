-- The libraries below that the line in crates.txt need not list: this crate and those above read them here.
pub use Rattle.containers as containers
