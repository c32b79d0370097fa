use Rattle.std.proofs.lemmas.Result.{on_ok_weaker}
use Rattle.std.proofs.Common.{◌++◌, ◌∷◌, []}
use Rattle.live_tasks.specs.Below.system_meaning.specs.Tasks.{Entering, with_doing}
use Rattle.live_tasks.proofs.Standing.{reads, stood, stands_at, call_sound, call_small, call_fits, call_set}
use Rattle.live_tasks.proofs.Closing.{same_small, same_frames}
use Rattle.live_tasks.proofs.tasks.Tasks.add_line.Goals as goal

pub invariant_of-self : goal.invariant_of-self
invariant_of-self c =
    let at = reads c.self.inside.pool c.self.inside.tasks.items c.args.self.now c.args.k c.index_mut-task.result.now c.self.view_is c.requires.task
    c.index_mut-task.ensures.value in
    let p = c.self.inside.pool in
    let sound = call_sound p p c.self.inside.tasks.items c.args.k c.index_mut-task.result.now at c.self.invariant in
    let small = call_small p p c.self.inside.tasks.items c.args.k c.index_mut-task.result.now at c.self.invariant in
    call_fits p p c.self.inside.tasks.items c.args.k c.index_mut-task.result.now at c.self.invariant c.add_line.new.task
    (same_frames c.index_mut-task.result.now c.add_line.new.task c.add_line.ensures.memory p)
    (same_small c.index_mut-task.result.now c.add_line.new.task c.add_line.ensures.memory small) (c.add_line.ensures.sound sound)

pub returns : goal.returns
returns c =
    let at = reads c.self.inside.pool c.self.inside.tasks.items c.args.self.now c.args.k c.index_mut-task.result.now c.self.view_is c.requires.task
    c.index_mut-task.ensures.value in
    let p = c.self.inside.pool in
    on_ok_weaker c.add_line.result (λ adds kinds_of owns own name lines store h has entering few.
    let all = stood kinds_of c.self.inside.pool c.self.inside.tasks.items c.args.self.now owns c.self.view_is h in
    let mine = stands_at kinds_of c.self.inside.pool c.self.inside.tasks.items owns c.args.k c.index_mut-task.result.now own all at has in
    call_set p p c.self.inside.tasks.items c.args.k c.index_mut-task.result.now at c.self.invariant c.add_line.new.task
    (same_frames c.index_mut-task.result.now c.add_line.new.task c.add_line.ensures.memory p) kinds_of owns all own has
    (with_doing (Entering name (lines ++ c.args.line ∷ []) store)) (adds (kinds_of own.packets) p own name lines store entering few mine))
    c.add_line.ensures.added
