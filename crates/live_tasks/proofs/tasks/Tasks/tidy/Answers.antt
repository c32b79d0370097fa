use Rattle.std.proofs.Common.{◌≡◌, List, sym, subst}
use Rattle.std.proofs.lemmas.Result.{on_ok_weaker}
use Rattle.eu_base.specs.declared.value.Kind.{Kind}
use Rattle.live_tasks.specs.Below.system_meaning.specs.Stores.{tidied}
use Rattle.live_tasks.specs.Below.system_meaning.specs.Tasks.{Idle, with_doing}
use Rattle.live_tasks.specs.Below.live_task.specs.Stands.{StandsFor}
use Rattle.live_tasks.proofs.Standing.{reads, stood, stands_at, call_sound, call_whole, call_fits, call_set}
use Rattle.live_tasks.proofs.tasks.Tasks.tidy.Goals as goal

pub tidy-requires : goal.tidy-requires
tidy-requires c =
    let at = reads c.self.inside.pool c.self.inside.tasks.items c.args.self.now c.args.k c.index_mut-task.result.now c.self.view_is c.requires.task
    c.index_mut-task.ensures.value in
    record { agree = call_whole c.self.inside.pool c.self.inside.pool c.self.inside.tasks.items c.args.k c.index_mut-task.result.now at c.self.invariant }

pub invariant_of-self : goal.invariant_of-self
invariant_of-self c =
    let at = reads c.self.inside.pool c.self.inside.tasks.items c.args.self.now c.args.k c.index_mut-task.result.now c.self.view_is c.requires.task
    c.index_mut-task.ensures.value in
    call_fits c.self.inside.pool c.tidy.new.pool c.self.inside.tasks.items c.args.k c.index_mut-task.result.now at c.self.invariant c.tidy.new.task c.tidy.ensures.frames c.tidy.ensures.few (c.tidy.ensures.sound (call_sound c.self.inside.pool c.self.inside.pool c.self.inside.tasks.items c.args.k c.index_mut-task.result.now at c.self.invariant))

pub returns : goal.returns
returns c =
    let at = reads c.self.inside.pool c.self.inside.tasks.items c.args.self.now c.args.k c.index_mut-task.result.now c.self.view_is c.requires.task
    c.index_mut-task.ensures.value in
    on_ok_weaker c.tidy.result (λ tidies kinds_of owns own store h has idle kinds.
    let all = stood kinds_of c.self.inside.pool c.self.inside.tasks.items c.args.self.now owns c.self.view_is h in
    let mine = stands_at kinds_of c.self.inside.pool c.self.inside.tasks.items owns c.args.k c.index_mut-task.result.now own all at has in
    let of : List Kind → Type 0 = λ ks. StandsFor ks c.self.inside.pool c.index_mut-task.result.now own in
    let after : List Kind → Type 0 = λ ks. StandsFor ks c.tidy.new.pool c.tidy.new.task (with_doing (Idle (tidied store)) own) in
    call_set c.self.inside.pool c.tidy.new.pool c.self.inside.tasks.items c.args.k c.index_mut-task.result.now at c.self.invariant c.tidy.new.task c.tidy.ensures.frames
    kinds_of owns all own has (with_doing (Idle (tidied store)))
    (subst after kinds (tidies own store idle (subst of (sym kinds) mine))))
    c.tidy.ensures.tidied
