use Rattle.std.proofs.Common.{inl, inr, subst, List, ℕ, Contains}
use Rattle.lru.specs.LruCache.{LruCache}
use Rattle.page_pool.specs.Pool.{Pages}
use Rattle.page_pool.proofs.Kept.{put_in}
use Rattle.page_pool.proofs.pool.Pool.keep.Goals.{in-Ok, in-Err}
use Rattle.page_pool.proofs.pool.Pool.keep.Goals as goal

pub returns-clause-clean : goal.returns-clause-clean
returns-clause-clean c = λ entry has. elim c.match-put.branch [
  | in-Ok w ↦ elim (put_in c.self.inside.clean c.put.new.self c.args.block _ c.args.bytes entry w.in-Ok.ensures.entries has) [
    | inl was ↦ inl (subst (λ (pages : Pages). Contains pages.clean entry) c.self.view_is was)
    | inr put ↦ inr put
  ]
  | in-Err w ↦ inl (subst (λ (pages : Pages). Contains pages.clean entry) c.self.view_is
      (subst (λ (cache : LruCache ℕ (List ℕ)). Contains cache.entries entry) w.in-Err.ensures.err has))
]
