use Rattle.std.proofs.Common.{sym, subst}
use Rattle.code_form.specs.Machine.{Control}
use Rattle.code_form.specs.Runs.{Rests}
use Rattle.task_run.specs.Below.zero_state.specs.Stepping.{control_of, mem_of, scene_of}
use Rattle.task_run.proofs.Answered.{stands_there}
use Rattle.task_run.proofs.task_run.TaskRun.go.Goals as goal

pub returns-clause-rests : goal.returns-clause-rests
returns-clause-rests g c cells r held rests =
    c.in_ok-halt.ensures.rests cells r held
    (subst (λ (d : Control). Rests c.args.c.now d (scene_of (mem_of (g.M.Memory.heads c.args.m.now) cells) c.args.marks.now) r) (sym c.self.view_is) rests)

pub returns-clause-stands : goal.returns-clause-stands
returns-clause-stands g c paused cells r held rests first before spent replies k =
    let there =
    c.in_ok-halt.ensures.rests cells r held
    (subst (λ (d : Control). Rests c.args.c.now d (scene_of (mem_of (g.M.Memory.heads c.args.m.now) cells) c.args.marks.now) r) (sym c.self.view_is) rests) in
    stands_there c.args.c.now first before spent replies (g.M.Memory.heads c.run.new.m) c.args.self.now (control_of c.run.new.s)
    (mem_of (g.M.Memory.heads c.args.m.now) cells) c.args.marks.now c.run.new.marks c.in_ok-halt.halt r
    there.1 paused k rests
