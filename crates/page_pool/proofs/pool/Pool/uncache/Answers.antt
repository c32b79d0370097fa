use Rattle.std.proofs.Common.{subst, ap, Contains, ◌≢◌}
use Rattle.page_pool.specs.Pool.{Pages}
use Rattle.page_pool.proofs.Kept.{dropped}
use Rattle.page_pool.proofs.pool.Pool.uncache.Goals as goal

pub returns-clause-drops : goal.returns-clause-drops
returns-clause-drops c = record {
  slots = ap (λ (pages : Pages). pages.slots) c.self.view_is;
  clean = λ entry has. subst (λ (pages : Pages). Contains pages.clean entry × (entry.0 ≢ c.args.block)) c.self.view_is
      (dropped c.self.inside.clean _ c.args.block _ entry c.len-count.ensures.valid.0 c.pop-kept.ensures.entries has);
}

pub returns-clause-sound : goal.returns-clause-sound
returns-clause-sound c = record { each = c.self.invariant.each }
