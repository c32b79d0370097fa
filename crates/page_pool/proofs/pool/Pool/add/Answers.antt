use Rattle.std.proofs.Common.{subst, arith}
use Rattle.std.proofs.lemmas.Option.{same_Some}
use Rattle.page_pool.specs.Pool.{IsPage}
use Rattle.page_pool.proofs.Sound.{updates_sound, for_kept}
use Rattle.page_pool.proofs.pool.Pool.add.Goals as goal

pub invariant_of-self-2 : goal.invariant_of-self-2
invariant_of-self-2 c =
    updates_sound (record { slots = c.self.inside.pages.slots; clean = c.self.inside.clean.entries }) _ c.in-Ok.field-0 _ c.self.invariant
    (record { changed = c.in-Ok.ensures.updates.changed; others = c.in-Ok.ensures.updates.others })
    (λ page e. subst (IsPage c.in-Ok.field-0) (same_Some _ page e)
    (record {
      low = omega (arith, c.in-Ok.ensures.key, c.if-number.false, c.vacant_key-number.ensures.value);
      named = omega arith;
      here = c.requires.here;
      long = for_kept (record { count = 1; home = c.args.home; pinned = c.args.pinned; bytes = c.args.bytes }) _ c.requires.long;
    }))

pub returns-clause-sound : goal.returns-clause-sound
returns-clause-sound c = invariant_of-self-2 c
