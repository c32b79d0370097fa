use Rattle.std.proofs.Common.{List, sym, subst}
use Rattle.task_numbers.specs.declared.number.TaskNo.{TaskNo}
use Rattle.task_desk.specs.Desks.{AllLive}
use Rattle.task_desk.proofs.Living.{live_without}
use Rattle.task_desk.proofs.desk.TaskDesk.leave.Goals as goal

pub invariant_of-self : goal.invariant_of-self
invariant_of-self c = (
  subst (λ (ready : List TaskNo). AllLive c.self.inside.tree ready) (sym c.leave.ensures)
      (live_without c.args.task c.self.inside.tree c.self.inside.ready c.self.invariant.0),
  c.self.invariant.1,
)
