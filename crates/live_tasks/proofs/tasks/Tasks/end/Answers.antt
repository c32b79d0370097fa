use Rattle.std.proofs.Common.{List, arith, sym, subst}
use Rattle.live_tasks.specs.Below.live_task.specs.declared.task.Task.{Task}
use Rattle.live_tasks.specs.Tasks.{IsFit, StandIn}
use Rattle.live_tasks.specs.Below.system_meaning.specs.Tasks.{Own}
use Rattle.std.specs.List.{remove}
use Rattle.live_tasks.proofs.Standing.{reads, stood, call_stands, end_fits, end_stands}
use Rattle.live_tasks.proofs.tasks.Tasks.end.Goals as goal

pub end-requires : goal.end-requires
end-requires c =
    let at = reads c.self.inside.pool c.self.inside.tasks.items c.args.self.now c.args.k c.remove-task.result c.self.view_is c.requires.task c.remove-task.ensures.value in
    record { agree = call_stands c.self.inside.pool c.self.inside.pool c.self.inside.tasks.items c.args.k c.remove-task.result at c.self.invariant 0 (omega arith) }

pub invariant_of-self : goal.invariant_of-self
invariant_of-self c =
    let at = reads c.self.inside.pool c.self.inside.tasks.items c.args.self.now c.args.k c.remove-task.result c.self.view_is c.requires.task c.remove-task.ensures.value in
    subst (λ (tasks : List Task). IsFit c.end.new.pool tasks) (sym c.remove-task.ensures.items)
    (end_fits c.self.inside.pool c.end.new.pool c.self.inside.tasks.items c.args.k c.remove-task.result at c.self.invariant c.end.ensures.frames)

pub returns : goal.returns
returns c = λ kinds_of owns h.
    let at = reads c.self.inside.pool c.self.inside.tasks.items c.args.self.now c.args.k c.remove-task.result c.self.view_is c.requires.task c.remove-task.ensures.value in
    let all = stood kinds_of c.self.inside.pool c.self.inside.tasks.items c.args.self.now owns c.self.view_is h in
    subst (λ (tasks : List Task). StandIn kinds_of c.end.new.pool tasks (remove owns c.args.k)) (sym c.remove-task.ensures.items)
    (end_stands c.self.inside.pool c.end.new.pool c.self.inside.tasks.items c.args.k c.remove-task.result at c.self.invariant c.end.ensures.frames kinds_of owns all)
