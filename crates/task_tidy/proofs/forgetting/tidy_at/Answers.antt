use Rattle.std.proofs.Common.{◌≡◌, ℕ, Some, None, refl, Option}
use Rattle.std.specs.Prelude.{option_map}
use Rattle.task_numbers.specs.declared.number.SpaceNo.{SpaceNo}
use Rattle.task_tidy.specs.Below.space_memory.specs.Memories.{roots}
use Rattle.task_tidy.specs.Below.task_job.proofs.Here.{memory_frames_then}
use Rattle.task_tidy.specs.Tidied.{kinds_with}
use Rattle.task_tidy.proofs.Keeping.{none_at, low_at, used_at, gone_at}
use Rattle.task_tidy.proofs.forgetting.tidy_at.Goals as goal

nothing_there : (o : Option SpaceNo) (n : Option ℕ) → ((s : SpaceNo) → o ≡ Some s → ⊥) → option_map (λ (s : SpaceNo). s.0) o ≡ n → None ≡ n
nothing_there None n not e = e
nothing_there (Some s) n not e = absurd (not s refl)

pub returns-in_default-clause-tidied : goal.returns-in_default-clause-tidied
returns-in_default-clause-tidied c store h =
    none_at (kinds_with c.args.packets.now c.args.behind.now) c.args.pool.now c.args.memory.now store h c.args.k
    (nothing_there c.number_at.result _ c.in_default.not-Some c.number_at.ensures)

pub returns-then-branch-clause-tidied : goal.returns-then-branch-clause-tidied
returns-then-branch-clause-tidied c store h =
    let ks = kinds_with c.args.packets.now c.args.behind.now in
    let n = c.in-Some.space.0 in
    let low = low_at ks c.args.pool.now c.args.memory.now store h c.args.k n c.in-Some.ensures in
    used_at ks c.args.pool.now c.args.memory.now store h c.args.k n c.in_ok-is_used.field-0 c.is_used.new.pool c.is_used.new.memory c.in-Some.ensures
    (c.in_ok-is_used.ensures.used store h low) c.if-branch.true (c.in_ok-is_used.ensures.keeps store h)

pub returns-clause-tidied : goal.returns-clause-tidied
returns-clause-tidied c store h =
    let ks = kinds_with c.args.packets.now c.args.behind.now in
    let n = c.in-Some.space.0 in
    let low = low_at ks c.args.pool.now c.args.memory.now store h c.args.k n c.in-Some.ensures in
    gone_at ks c.args.pool.now c.args.memory.now store h c.args.k c.in-Some.space c.in_ok-is_used.field-0 c.is_used.new.pool c.forget.new.pool
    c.is_used.new.memory c.forget.new.memory c.in-Some.ensures (c.in_ok-is_used.ensures.used store h low) c.if-branch.false
    (c.in_ok-is_used.ensures.keeps store h) c.forget.ensures.forgotten c.forget.ensures.keeps

pub returns-clause-frames : goal.returns-clause-frames
returns-clause-frames c =
    memory_frames_then c.args.pool.now c.is_used.new.pool c.forget.new.pool (roots c.args.memory.now) (roots c.is_used.new.memory) (roots c.forget.new.memory)
    c.in_ok-is_used.ensures.frames c.forget.ensures.frames
