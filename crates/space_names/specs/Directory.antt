-- The words of directories, which crates below share.
pub use Rattle.task_numbers.specs.Directory.{get, put, without, without_space}
