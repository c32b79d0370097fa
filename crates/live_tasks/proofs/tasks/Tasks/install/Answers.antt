use Rattle.std.proofs.Common.{arith, sym, subst, ◌++◌, ◌∷◌, [], List}
use Rattle.std.proofs.lemmas.Result.{on_ok_weaker}
use Rattle.eu_base.specs.declared.value.Kind.{Kind}
use Rattle.live_tasks.specs.Below.system_meaning.specs.Tasks.{Idle, store_in, with_doing}
use Rattle.live_tasks.specs.Below.system_meaning.specs.Monitor.{with_packet}
use Rattle.live_tasks.specs.Below.live_task.specs.Stands.{StandsFor}
use Rattle.live_tasks.proofs.Standing.{reads, call_sound, call_small, call_fits}
use Rattle.live_tasks.proofs.Over.{overs, installed_small, installed_frames, installs}
use Rattle.live_tasks.proofs.tasks.Tasks.install.Goals as goal

pub invariant_of-self : goal.invariant_of-self
invariant_of-self c =
    let at = reads c.self.inside.pool c.self.inside.tasks.items c.args.self.now c.args.k c.index_mut-task.result.now c.self.view_is c.requires.task
    c.index_mut-task.ensures.value in
    let small = installed_small c.index_mut-task.result.now c.install.new.self c.args.number c.install.result c.install.ensures.ok c.install.ensures.err
    (call_small c.self.inside.pool c.self.inside.pool c.self.inside.tasks.items c.args.k c.index_mut-task.result.now at c.self.invariant) in
    let frames = installed_frames c.index_mut-task.result.now c.install.new.self c.args.number c.install.result c.install.ensures.ok c.install.ensures.err c.self.inside.pool in
    call_fits c.self.inside.pool c.self.inside.pool c.self.inside.tasks.items c.args.k c.index_mut-task.result.now at c.self.invariant c.install.new.self frames small (c.install.ensures.sound (call_sound c.self.inside.pool c.self.inside.pool c.self.inside.tasks.items c.args.k c.index_mut-task.result.now at c.self.invariant))

pub returns-clause-installed : goal.returns-clause-installed
returns-clause-installed c =
    let at = reads c.self.inside.pool c.self.inside.tasks.items c.args.self.now c.args.k c.index_mut-task.result.now c.self.view_is c.requires.task
    c.index_mut-task.ensures.value in
    on_ok_weaker c.install.result (λ stands kinds_of later owns own command w h has agree fits is.
    let all = overs kinds_of c.self.inside.pool c.self.inside.tasks.items c.args.self.now owns c.args.k c.self.view_is command w h in
    installs c.self.inside.pool c.self.inside.tasks.items c.args.k c.index_mut-task.result.now at kinds_of later owns command w all own has agree fits
    c.install.new.self c.args.number is (λ over room. stands (kinds_of own.packets) c.self.inside.pool own command w over room))
    c.install.ensures.installed
