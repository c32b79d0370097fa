use Rattle.std.proofs.lemmas.Result.{on_ok_weaker}
use Rattle.live_tasks.specs.Below.system_meaning.specs.Tasks.{Idle, own_variables, settled, store_in, with_doing}
use Rattle.live_tasks.proofs.Standing.{reads, call_sound, call_whole, call_fits}
use Rattle.live_tasks.proofs.Over.{overs, over_puts}
use Rattle.live_tasks.proofs.tasks.Tasks.settle.Goals as goal

pub settle-requires : goal.settle-requires
settle-requires c =
    let at = reads c.self.inside.pool c.self.inside.tasks.items c.args.self.now c.args.k c.index_mut-task.result.now c.self.view_is c.requires.task
    c.index_mut-task.ensures.value in
    record { agree = call_whole c.self.inside.pool c.self.inside.pool c.self.inside.tasks.items c.args.k c.index_mut-task.result.now at c.self.invariant }

pub invariant_of-self : goal.invariant_of-self
invariant_of-self c =
    let at = reads c.self.inside.pool c.self.inside.tasks.items c.args.self.now c.args.k c.index_mut-task.result.now c.self.view_is c.requires.task
    c.index_mut-task.ensures.value in
    call_fits c.self.inside.pool c.settle.new.pool c.self.inside.tasks.items c.args.k c.index_mut-task.result.now at c.self.invariant c.settle.new.task c.settle.ensures.frames c.settle.ensures.few (c.settle.ensures.sound (call_sound c.self.inside.pool c.self.inside.pool c.self.inside.tasks.items c.args.k c.index_mut-task.result.now at c.self.invariant))

pub returns-clause-settled : goal.returns-clause-settled
returns-clause-settled c =
    let at = reads c.self.inside.pool c.self.inside.tasks.items c.args.self.now c.args.k c.index_mut-task.result.now c.self.view_is c.requires.task
    c.index_mut-task.ensures.value in
    on_ok_weaker c.settle.result (λ settles kinds_of owns own command w h has is.
    let all = overs kinds_of c.self.inside.pool c.self.inside.tasks.items c.args.self.now owns c.args.k c.self.view_is command w h in
    over_puts c.self.inside.pool c.settle.new.pool c.self.inside.tasks.items c.args.k c.index_mut-task.result.now at c.self.invariant c.settle.new.task c.settle.ensures.frames
    kinds_of owns command w all own has (with_doing (Idle (settled (own_variables command) (store_in w))))
    (λ over. settles (kinds_of own.packets) own command w over is))
    c.settle.ensures.settled
