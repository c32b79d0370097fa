use Rattle.std.proofs.Common.{true, List, ℕ, subst}
use Rattle.page_pool.specs.Pool.{Adds}
use Rattle.page_pool.proofs.Shows.{adds_of}
use Rattle.page_pool.proofs.pool.Pool.fresh_pinned.Goals as goal
use Rattle.std.proofs.Common.{inl}

pub returns-clause-adds : goal.returns-clause-adds
returns-clause-adds c = subst (λ (bytes : List ℕ). Adds c.args.self.now c.add.new.self c.in_ok-p.p (record { pinned = true; held = inl bytes })) c.in_ok-bytes.ensures.ok
    (adds_of _ _ c.in_ok-p.p true c.in_ok-bytes.bytes.value c.in_ok-p.ensures.adds)

pub returns-clause-sound : goal.returns-clause-sound
returns-clause-sound c = c.in_ok-p.ensures.sound

pub returns-clause-clean : goal.returns-clause-clean
returns-clause-clean c = c.in_ok-p.ensures.adds.clean
