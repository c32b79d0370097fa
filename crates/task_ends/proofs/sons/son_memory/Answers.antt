use Rattle.std.proofs.Common.{sym, subst, ◌∙◌}
use Rattle.page_pool.specs.Pool.{Pages}
use Rattle.task_ends.specs.Below.task_job.specs.Here.{nowhere}
use Rattle.task_ends.specs.Below.space_memory.specs.Memories.{roots}
use Rattle.task_ends.specs.Below.space_memory.proofs.Framed.{stands_now}
use Rattle.task_ends.specs.Refused.{Refused}
use Rattle.task_ends.proofs.Pages as pages
use Rattle.task_ends.proofs.Settled.{as_many}
use Rattle.task_ends.proofs.Heirs.{son_of_idle, son_of_running}
use Rattle.task_ends.proofs.sons.son_memory.Goals as goal

pub inherit-requires : goal.inherit-requires
inherit-requires c = record { agree = pages.room_for_son c.args.pool.now (roots c.args.task.now.memory) c.requires.agree }

pub free_behind-requires : goal.free_behind-requires
free_behind-requires c = record {
  agree =
      pages.son_stands c.args.pool.now c.inherit.new.pool c.args.task.now.memory c.in_ok-memory.memory c.in_ok-memory.ensures.son
      (c.in_ok-memory.ensures.frames nowhere) c.requires.agree;
}

pub end-requires : goal.end-requires
end-requires c = record {
  agree = stands_now c.free_behind.new.pool (roots c.free_behind.new.memory) c.in-Err.ensures.stands;
}

pub returns-in-Ok : goal.returns-in-Ok
returns-in-Ok c =
    let p0 = c.args.pool.now in
    let p1 = c.inherit.new.pool in
    let p2 = c.free_behind.new.pool in
    let task = c.args.task.now in
    let son = c.in_ok-memory.memory in
    let now = c.free_behind.new.memory in
    let is = c.in_ok-memory.ensures.son in
    let made = c.in_ok-memory.ensures.frames nowhere in
    record {
      keeps = λ kinds own h.
          son_of_running kinds p0 p1 task son own is (c.in_ok-memory.ensures.keeps nowhere) h c.in-Running.job c.in-Running.is p2 now c.in-Ok.ensures.freed;
      kept = pages.freed_keeps p0 p1 task.memory son is made c.requires.agree p2 (roots now) c.in-Ok.ensures.frames (c.in_ok-memory.ensures.keeps nowhere);
      spaces = as_many son now c.in-Ok.ensures.heads ∙ pages.two p0 p1 task.memory son is made;
      frames = pages.freed_frames p0 p1 task.memory son is made c.requires.agree p2 (roots now) c.in-Ok.ensures.frames;
      err = tt;
    }

pub returns-in-Err : goal.returns-in-Err
returns-in-Err c =
    let p0 = c.args.pool.now in
    let p1 = c.inherit.new.pool in
    let p2 = c.free_behind.new.pool in
    let p3 = c.end.new.pool in
    let task = c.args.task.now in
    let son = c.in_ok-memory.memory in
    let now = c.free_behind.new.memory in
    let is = c.in_ok-memory.ensures.son in
    let made = c.in_ok-memory.ensures.frames nowhere in
    record {
      keeps = tt;
      kept =
          pages.gone_keeps p0 p1 task.memory son is made c.requires.agree p2 p3 (roots now) c.in-Err.ensures.frames (c.end.ensures.frames nowhere)
          (c.in_ok-memory.ensures.keeps nowhere);
      spaces = tt;
      frames = tt;
      err = pages.refused p0 p1 task.memory son is made c.requires.agree p2 p3 (roots now) c.in-Err.ensures.frames (c.end.ensures.frames nowhere);
    }

pub returns-in_default : goal.returns-in_default
returns-in_default c =
    let p0 = c.args.pool.now in
    let p1 = c.inherit.new.pool in
    let task = c.args.task.now in
    let son = c.in_ok-memory.memory in
    let is = c.in_ok-memory.ensures.son in
    let made = c.in_ok-memory.ensures.frames nowhere in
    record {
      keeps = λ kinds own h. son_of_idle kinds p0 p1 task son own is (c.in_ok-memory.ensures.keeps nowhere) h c.in_default.not-Running;
      kept = (c.in_ok-memory.ensures.keeps nowhere);
      spaces = pages.two p0 p1 task.memory son is made;
      frames = pages.made_frames p0 p1 task.memory son is made;
      err = tt;
    }

pub returns-in_err-memory-clause-err : goal.returns-in_err-memory-clause-err
returns-in_err-memory-clause-err c =
    pages.on_err c.from_residual.result (Refused c.args.pool.now c.inherit.new.pool (roots c.args.task.now.memory) 18)
    (subst (λ (p : Pages). Refused c.args.pool.now p (roots c.args.task.now.memory) 18) (sym c.in_err-memory.ensures.err)
    (pages.refused_none c.args.pool.now (roots c.args.task.now.memory) 18))
