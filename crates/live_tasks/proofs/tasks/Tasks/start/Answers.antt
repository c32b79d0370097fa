use Rattle.std.proofs.Common.{◌≡◌, List, sym, subst}
use Rattle.std.proofs.lemmas.Result.{on_ok_weaker}
use Rattle.eu_base.specs.declared.value.Kind.{Kind}
use Rattle.live_tasks.specs.Below.system_meaning.specs.Tasks.{Running, starting, with_doing}
use Rattle.live_tasks.specs.Below.live_task.specs.Stands.{StandsFor}
use Rattle.live_tasks.proofs.Standing.{reads, stood, stands_at, call_sound, call_whole, call_fits, call_set}
use Rattle.live_tasks.proofs.tasks.Tasks.start.Goals as goal

pub start-requires-clause-sound : goal.start-requires-clause-sound
start-requires-clause-sound c =
    let at = reads c.self.inside.pool c.self.inside.tasks.items c.args.self.now c.args.k c.index_mut-task.result.now c.self.view_is c.requires.task
    c.index_mut-task.ensures.value in
    call_sound c.self.inside.pool c.self.inside.pool c.self.inside.tasks.items c.args.k c.index_mut-task.result.now at c.self.invariant

pub start-requires-clause-agree : goal.start-requires-clause-agree
start-requires-clause-agree c =
    let at = reads c.self.inside.pool c.self.inside.tasks.items c.args.self.now c.args.k c.index_mut-task.result.now c.self.view_is c.requires.task
    c.index_mut-task.ensures.value in
    call_whole c.self.inside.pool c.self.inside.pool c.self.inside.tasks.items c.args.k c.index_mut-task.result.now at c.self.invariant

pub invariant_of-self : goal.invariant_of-self
invariant_of-self c =
    let at = reads c.self.inside.pool c.self.inside.tasks.items c.args.self.now c.args.k c.index_mut-task.result.now c.self.view_is c.requires.task
    c.index_mut-task.ensures.value in
    call_fits c.self.inside.pool c.start.new.pool c.self.inside.tasks.items c.args.k c.index_mut-task.result.now at c.self.invariant c.start.new.self c.start.ensures.frames c.start.ensures.few c.start.ensures.sound

pub returns : goal.returns
returns c =
    let at = reads c.self.inside.pool c.self.inside.tasks.items c.args.self.now c.args.k c.index_mut-task.result.now c.self.view_is c.requires.task
    c.index_mut-task.ensures.value in
    on_ok_weaker c.start.result (λ starts kinds_of owns own store i h has idle kinds.
    let all = stood kinds_of c.self.inside.pool c.self.inside.tasks.items c.args.self.now owns c.self.view_is h in
    let mine = stands_at kinds_of c.self.inside.pool c.self.inside.tasks.items owns c.args.k c.index_mut-task.result.now own all at has in
    let of : List Kind → Type 0 = λ ks. StandsFor ks c.self.inside.pool c.index_mut-task.result.now own in
    let after : List Kind → Type 0 = λ ks. StandsFor ks c.start.new.pool c.start.new.self (with_doing (Running (starting c.args.unit store)) own) in
    call_set c.self.inside.pool c.start.new.pool c.self.inside.tasks.items c.args.k c.index_mut-task.result.now at c.self.invariant c.start.new.self c.start.ensures.frames
    kinds_of owns all own has (with_doing (Running (starting c.args.unit store)))
    (subst after kinds (starts own store i idle (subst of (sym kinds) mine))))
    c.start.ensures.starts
