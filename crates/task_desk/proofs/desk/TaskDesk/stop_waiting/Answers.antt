use Rattle.std.proofs.Common.{sym, subst}
use Rattle.message_wait.specs.Rendezvous.{Waits}
use Rattle.task_desk.specs.Desks.{AreWaiters}
use Rattle.task_desk.proofs.Waiting.{left_wait}
use Rattle.task_desk.proofs.desk.TaskDesk.stop_waiting.Goals as goal

pub invariant_of-self : goal.invariant_of-self
invariant_of-self c = (
  c.self.invariant.0,
  subst (λ (waits : Waits). AreWaiters c.self.inside.tree waits) (sym c.leave.ensures)
      (left_wait c.self.inside.tree c.self.inside.waits c.self.invariant.1 c.args.task),
)
