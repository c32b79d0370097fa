use Rattle.std.proofs.Common.{◌-◌, subst}
use Rattle.task_tidy.specs.Below.space_memory.specs.Memories.{roots}
use Rattle.task_tidy.specs.Below.task_job.proofs.Here.{memory_frames_none, memory_frames_then}
use Rattle.task_tidy.specs.Below.system_meaning.specs.Stores.{Store}
use Rattle.task_tidy.specs.Below.task_job.specs.Standing.{Keeps}
use Rattle.task_tidy.specs.Tidied.{kinds_with, tidied_from}
use Rattle.task_tidy.proofs.Keeping.{all_first, next_place}
use Rattle.task_tidy.proofs.forgetting.forget_unused.Goals as goal

pub loop-done-init : goal.loop-done-init
loop-done-init c = record {
  keeps = λ store h.
      all_first (kinds_with c.args.packets.now c.args.behind.now) c.args.pool.now c.args.memory.now store h c.count-count.result c.count-count.ensures.count;
  stands = c.requires.agree;
  frames = memory_frames_none c.args.pool.now (roots c.args.memory.now);
}

pub returns-in_err-tidy_at-clause-frames : goal.returns-in_err-tidy_at-clause-frames
returns-in_err-tidy_at-clause-frames c =
    memory_frames_then c.args.pool.now c.loop-done.pool c.tidy_at.new.pool (roots c.args.memory.now) (roots c.loop-done.memory) (roots c.tidy_at.new.memory)
    c.loop-done.invariant.frames c.in_err-tidy_at.ensures.frames

pub loop-done-preserved : goal.loop-done-preserved
loop-done-preserved c = record {
  keeps = λ store h.
      let ks = kinds_with c.args.packets.now c.args.behind.now in
      subst (λ (s : Store). Keeps ks c.tidy_at.new.pool c.tidy_at.new.memory s)
      (next_place ks c.args.pool.now c.args.memory.now store h c.count-count.result c.loop-done.done c.count-count.ensures.count c.loop-done-test.true)
      (c.in_ok-tidy_at.ensures.tidied (tidied_from (c.count-count.result - c.loop-done.done) store) (c.loop-done.invariant.keeps store h));
  stands = c.in_ok-tidy_at.ensures.stands;
  frames = memory_frames_then c.args.pool.now c.loop-done.pool c.tidy_at.new.pool (roots c.args.memory.now) (roots c.loop-done.memory)
      (roots c.tidy_at.new.memory) c.loop-done.invariant.frames c.in_ok-tidy_at.ensures.frames;
}
