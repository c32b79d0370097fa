use Rattle.page_table.proofs.Common.{◌≡◌, ◌≤◌, [], ◌∷◌, drop, used_of, entries_of, names, Moves, FreesOnly, heirs}
use Rattle.page_table.proofs.forget.+release.Given as goal

abbrev pub decreases-release : goal.decreases-release
decreases-release l = l.height

abbrev pub invariant-loop-k : goal.invariant-loop-k
invariant-loop-k l = record {
  moves : Moves l.fn.pool l.pool (names l.height (l.fn.page ∷ [])) (heirs l.height (drop l.k (entries_of l.bytes)));
  frees : FreesOnly l.fn.pool l.pool;
  clean : l.pool.clean ≡ l.fn.pool.clean;
  used : used_of l.pool ≤ used_of l.fn.pool;
}
