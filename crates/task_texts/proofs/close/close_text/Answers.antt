use Rattle.std.proofs.Common.{sym, subst}
use Rattle.task_texts.specs.Below.page_table.specs.Frames.{Stands}
use Rattle.task_texts.specs.Below.space_memory.specs.Memories.{roots}
use Rattle.live_task.specs.declared.task.Task.{Task}
use Rattle.task_texts.proofs.Closing.{closes}
use Rattle.task_texts.proofs.close.close_text.Goals as goal

pub keep_text-requires-clause-agree : goal.keep_text-requires-clause-agree
keep_text-requires-clause-agree c =
    subst (λ (t : Task). Stands c.args.pool.now (roots t.memory) 1) (sym c.in-Some.ensures.1) c.requires.agree

pub returns-in-Ok-clause-closed : goal.returns-in-Ok-clause-closed
returns-in-Ok-clause-closed c =
    closes c.args.pool.now c.keep_text.new.pool c.args.task.now c.take_text.new.task c.keep_text.new.memory c.in-Some.name c.as_slice.result.now
    c.in-Some.lines c.as_slice-2.result.now c.in-Some.ensures.1 c.in-Some.ensures.0 c.as_slice.ensures c.as_slice-2.ensures c.requires.sound
    c.in-Ok.ensures.kept
