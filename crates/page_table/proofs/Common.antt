-- The names that most of these proofs speak of.
pub use Rattle.std.proofs.Common.{◌≡◌, ◌≢◌, ◌+◌, ◌-◌, ◌*◌, ◌/◌, ◌%◌, ◌<◌, ◌≤◌, ℕ, zero, suc, List, [], ◌∷◌, ◌++◌, length, get_or, set, take, drop, replicate}
pub use Rattle.std.proofs.Common.{◌⊎◌, ◌==◌, if◌then◌else◌, Option, Some, None, inl, inr, true, false, Bool, refl, sym, ◌∙◌, ap, subst, arith, get_or-set_same, get_or-set_other}
pub use Rattle.std.proofs.lemmas.Bool.{cases_eq, cases_lt}
pub use Rattle.std.proofs.lemmas.Option.{none-some, same_Some}
pub use Rattle.std.specs.Option.{ForSome}
pub use Rattle.page_pool.specs.Pool.{Pages, Shown, Tell, Known, content, table, seen, count_of, bytes_of, shown_of, home_of, used_of, pasted, one, sum, IsPool, Stays, Adds, Shares, Drops, Writes, HasBytes, PastesBytes}
pub use Rattle.page_pool.proofs.Sound.{one_same, one_other}
pub use Rattle.page_table.specs.Entries.{Names, Book, entries_of, entries_in, book_of, told, child, content_of, named_by}
pub use Rattle.std.specs.Int.{from_le_bytes, to_le_bytes, w32}
pub use Rattle.page_table.specs.Sharing.{hit, occ, inner, named, Hands, names, both, nothing, total, Agrees, AgreeIn, Agree, most_spaces}
unfoldable pub use Rattle.page_table.specs.Sharing.{numbers}
pub use Rattle.page_table.specs.Frames.{place, shown, Over, over, Knows, content_at, KeepsHomes, Frames, Stands, Moves, Holds}
pub use Rattle.page_table.specs.Changes.{ChangesOnly, FreesOnly, way}
pub use Rattle.page_table.specs.Own.{named_page, count_at, home_at, Owns, KeepsWay, Takes, heirs, HasFewNames, Ready}
