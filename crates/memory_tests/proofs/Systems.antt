-- The names that the proofs of tasks, as owners of spaces, speak of.
pub use Rattle.std.proofs.Common.{◌≡◌, ◌∙◌, ℕ, List, [], ◌∷◌, Option, refl, sym, ap, subst, arith, get_or-set_same}
pub use Rattle.std.proofs.lemmas.List.{get_or_read}
pub use Rattle.page_pool.specs.Pool.{Pages, Known}
pub use Rattle.page_table.specs.Frames.{Frames, Stands}
pub use Rattle.page_table.proofs.Framing.{stands_first, stands_after, stands_same, frames_more, frames_then, frames_same, beside, named_first, named_later}
pub use Rattle.data_space.specs.Data.{SpaceData}
pub use Rattle.data_space.proofs.Owners.{own, set_agree, set_changes, gone_agree, gone_loses, copy_stands, copy_agree, copy_keeps}
pub use Rattle.memory_tests.specs.Tasks.{roots, no_task, zeros, whole}
