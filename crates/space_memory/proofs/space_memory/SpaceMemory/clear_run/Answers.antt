use Rattle.space_memory.specs.Below.page_table.specs.Frames.{over}
use Rattle.eu_base.specs.declared.address.Area.TheVariants.{Run}
use Rattle.space_memory.proofs.Fresh.{nothing_held}
use Rattle.space_memory.proofs.Framed.{command_stands, cleared_frames, cleared_keeps}
use Rattle.space_memory.proofs.space_memory.SpaceMemory.clear_run.Goals as goal

pub forget-requires : goal.forget-requires
forget-requires c = record { agree = rw c.replace-run.ensures.value (command_stands _ _ c.self.view_is _ 0 c.requires.agree) }

pub returns-clause-nothing : goal.returns-clause-nothing
returns-clause-nothing c = λ tell. rw (c.replace-run.ensures.after, c.nil.ensures) (nothing_held Run (over c.forget.new.pool tell))

pub returns-clause-frames : goal.returns-clause-frames
returns-clause-frames c = λ tell.
    let lost = rw c.replace-run.ensures.value at c.forget.ensures.frames tell in
    rw (c.replace-run.ensures.after, c.nil.ensures) (cleared_frames _ _ c.self.view_is (over c.args.pool.now tell) (over c.forget.new.pool tell) lost)

pub returns-clause-keeps : goal.returns-clause-keeps
returns-clause-keeps c = λ tell.
    let lost = rw c.replace-run.ensures.value at c.forget.ensures.frames tell in
    rw (c.replace-run.ensures.after, c.nil.ensures) (cleared_keeps _ _ c.self.view_is (over c.args.pool.now tell) (over c.forget.new.pool tell) lost c.requires.agree)
